-- Characteristics that are symmetrical about zero: they work on the size, and the sign goes through.
use Rattle.std.specs.Prelude.{ℕ, Bool, true, false, ℤ, pos, neg_ℤ, int_lt, unsigned_abs}

-- the number of a size, negative or not
abbrev pub with_sign : Bool → ℕ → ℤ
with_sign false n = pos n
with_sign true n = neg_ℤ (pos n)

-- f works on the size, and the sign is kept
abbrev pub symmetrical : (ℕ → ℕ) → ℤ → ℤ
symmetrical f z = with_sign (int_lt z (pos 0)) (f (unsigned_abs z))
