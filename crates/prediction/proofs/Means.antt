-- Means of pels stay pels.
use Rattle.std.proofs.Common.{◌≡◌, false, ℤ, pos, negsuc, ◌+ℤ◌, refl, arith, w8, w16, SFits}
use lib.Signed.{shr_z}
use Rattle.std.proofs.lemmas.Int.{ints}
use lib.Signed.{lt_z}
use Rattle.prediction.specs.Rules.{halved, mean, hold, altered, sum}
use Rattle.prediction.specs.declared.marks.Sum.{Sum}

abbrev pub whole : ℤ → Sum
whole x = record { pel = x; held = false }

pub shift_halves : (z : ℤ) → shr_z z 2 ≡ halved z
shift_halves (pos n) = refl
shift_halves (negsuc n) = refl

pub sum_fits : (a b : ℤ) → SFits w8 a → SFits w8 b → SFits w16 (a +ℤ b)
sum_fits a b f g = grind (arith, ints)

pub more_fits : (a b : ℤ) → SFits w8 a → SFits w8 b → SFits w16 (a +ℤ b +ℤ pos 1)
more_fits a b f g = grind (arith, ints)

pub mean_fits : (a b : ℤ) → SFits w8 a → SFits w8 b → SFits w8 (mean a b)
mean_fits a b f g = grind (arith, ints)

pub mean_fits_16 : (a b : ℤ) → SFits w8 a → SFits w8 b → SFits w16 (mean a b)
mean_fits_16 a b f g = grind (arith, ints)

-- a whole number within a pel's range is held as it is
pub sum_within : (p v x : ℤ) → x ≡ p +ℤ v → lt_z (p +ℤ v) (negsuc 127) ≡ false → lt_z (pos 127) (p +ℤ v) ≡ false → whole x ≡ sum p v
sum_within p v x same low high = within (p +ℤ v) x same low high
  where
    within : (z x : ℤ) → x ≡ z → lt_z z (negsuc 127) ≡ false → lt_z (pos 127) z ≡ false → whole x ≡ record { pel = hold z; held = altered z }
    within z x same low high = rw (same, low, high)
