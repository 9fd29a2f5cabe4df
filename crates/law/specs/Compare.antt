-- At how many places two memories differ.
use Rattle.std.specs.Prelude.{ℕ, zero, suc, ◌+◌, not, List, ℤ}
use Rattle.format.specs.Bits.{digit}
use Rattle.format.specs.Usable.{equals}
use Rattle.codec.specs.Signal.{pel_at}

-- the pels n back are not the same
abbrev pub differ_at : List ℤ → List ℤ → ℕ → ℕ
differ_at xs ys n = digit (not (equals (pel_at xs n) (pel_at ys n)))

-- among the newest count pels
abbrev pub differing_pels : List ℤ → List ℤ → ℕ → ℕ
differing_pels xs ys zero = 0
differing_pels xs ys (suc n) = differing_pels xs ys n + differ_at xs ys (suc n)
