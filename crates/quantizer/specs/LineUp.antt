-- The line-up characteristics, for tests of circuits: a level number is its own value.
use Rattle.std.specs.Prelude.{ℕ, min, ℤ}
use Rattle.quantizer.specs.Symmetry.{symmetrical}

abbrev pub line_up_top : ℕ
line_up_top = 127

abbrev pub line_up_shortfall : ℕ
line_up_shortfall = 3

-- the number of an error is the error, held to -127 .. 127
abbrev pub line_up_number : ℤ → ℤ
line_up_number = symmetrical (λ m. min m line_up_top)

-- the value of a number is the number
abbrev pub line_up_value : ℤ → ℤ
line_up_value n = n
