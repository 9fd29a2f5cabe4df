-- The delay of a vector as a number.
use Rattle.std.proofs.Common.{◌≡◌, ℕ, ◌<◌, ◌^◌, ℤ, pos, negsuc, nat_abs, refl, Ok, Err, Result}
use Rattle.std.specs.Int.{FitsUnsignedBits}
use Rattle.std.specs.Result.{OkIff, result_unwrap_or}
use Rattle.codec.specs.Block.{natural}

-- what is below 0 counts as 0
pub natural_or : {E : Type 0} (z : ℤ) (r : Result ℕ E) → nat_abs z < 2 ^ 64 → OkIff r (FitsUnsignedBits 64 z) (nat_abs z) → result_unwrap_or r 0 ≡ natural z
natural_or (pos n) (Ok x) l h = h.1
natural_or (pos n) (Err e) l h = absurd (h l)
natural_or (negsuc n) (Ok x) l h = absurd h.0
natural_or (negsuc n) (Err e) l h = refl
