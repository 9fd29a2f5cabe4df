-- Pels stay in range: what the rules make of pels between two bounds lies between them again.
use Rattle.std.proofs.Common.{◌≡◌, ℕ, zero, suc, ◌+◌, ◌≤◌, Bool, true, false, cond, not, ◌&&◌, ◌||◌, leb, List, [], ◌∷◌, length, take, replicate, ℤ, pos, negsuc, ◌+ℤ◌, ◌-ℤ◌, nat_abs, ◌≤ℤ◌, unwrap_or, sym, ap, ◌∙◌, subst, arith}
use Rattle.std.specs.List.{slice_get}
use Rattle.std.proofs.lemmas.Int.{ints, by_lt_z}
use Rattle.delay.specs.Delay.{entered}
use Rattle.format.specs.Bits.{level_of}
use Rattle.prediction.specs.Rules.{halved, mean, interpolation, repetition, towards, new_background, hold, altered, distance, byte}
use Rattle.prediction.specs.declared.marks.BackgroundControl.{BackgroundControl}
use Rattle.quantizer.specs.Lawful.{Lawful, within, largest_error}
use Rattle.quantizer.proofs.Uses.{error_value_up, error_value_down, within_some}
use Rattle.codec.specs.Coding.{limited, zeroed, prepared}
use Rattle.codec.specs.Line.{level_value}
use Rattle.codec.specs.Signal.{Signal}
use Rattle.codec.specs.declared.modes.Geometry.{Geometry}
use Rattle.law.specs.Law.{PelsWithin, Within, Cleared}

-- the bounds −128 and 127 of all pels, or one less on either side
pub record Bounds (low high : ℤ) : Type 0 where
  pub low_least : negsuc 127 ≤ℤ low
  pub low_most : low ≤ℤ negsuc 126
  pub high_least : pos 126 ≤ℤ high
  pub high_most : high ≤ℤ pos 127

pub all_pels : Bounds (negsuc 127) (pos 127)
all_pels = record { low_least = omega (arith, ints); low_most = omega (arith, ints); high_least = omega (arith, ints); high_most = omega (arith, ints) }

pub inner_pels : Bounds (negsuc 126) (pos 126)
inner_pels = record { low_least = omega (arith, ints); low_most = omega (arith, ints); high_least = omega (arith, ints); high_most = omega (arith, ints) }

abbrev pub Between : ℤ → ℤ → ℤ → Type 0
Between low high z = (low ≤ℤ z) × (z ≤ℤ high)

-- a choice between two has what both have
pub chosen_has : {A : Type 0} (P : A → Type 0) (b : Bool) (x y : A) → P x → P y → P (cond b x y)
chosen_has P true x y px py = px
chosen_has P false x y px py = py

halved_above : (low z : ℤ) → (low +ℤ low) ≤ℤ z → low ≤ℤ halved z
halved_above low (pos n) h = omega (arith, ints)
halved_above low (negsuc n) h = omega (arith, ints)

halved_below : (high z : ℤ) → z ≤ℤ (high +ℤ high +ℤ pos 1) → halved z ≤ℤ high
halved_below high (pos n) h = omega (arith, ints)
halved_below high (negsuc n) h = omega (arith, ints)

module _ {low high : ℤ} where
  taken_within : (k : ℕ) (xs : List ℤ) (i : ℕ) → Between low high (pos 0) → Between low high (unwrap_or (slice_get xs i) (pos 0)) → Between low high (unwrap_or (slice_get (take k xs) i) (pos 0))
  taken_within zero xs i z h = z
  taken_within (suc k) [] i z h = h
  taken_within (suc k) (x ∷ xs) zero z h = h
  taken_within (suc k) (x ∷ xs) (suc i) z h = taken_within k xs i z h

  entered_within_if : (x : ℤ) (xs : List ℤ) → Between low high (pos 0) → Between low high x → PelsWithin low high xs → PelsWithin low high (entered x xs)
  entered_within_if x xs z hx h zero = z
  entered_within_if x [] z hx h (suc n) = z
  entered_within_if x (y ∷ ys) z hx h (suc zero) = hx
  entered_within_if x (y ∷ ys) z hx h (suc (suc m)) = taken_within (length ys) (y ∷ ys) m z (h (suc m))

  -- the mean of two pels lies between the bounds of both
  pub mean_within : (a b : ℤ) → Between low high a → Between low high b → Between low high (mean a b)
  mean_within a b ha hb = (halved_above low (a +ℤ b +ℤ pos 1) (omega (arith, ints)), halved_below high (a +ℤ b +ℤ pos 1) (omega (arith, ints)))

  pub interpolation_within : (is_luminance : Bool) (left right above below : ℤ) → Between low high left → Between low high right → Between low high above → Between low high below
      → Between low high (interpolation is_luminance left right above below)
  interpolation_within is_luminance left right above below hl hr ha hb =
      let across = mean_within left right hl hr in
      let along = mean_within above below ha hb in
      chosen_has (Between low high) is_luminance (mean (mean left right) (mean above below)) (mean left right)
      (mean_within (mean left right) (mean above below) across along) across

  pub repetition_within : (is_luminance second : Bool) (near far : ℤ) → Between low high near → Between low high far → Between low high (repetition is_luminance second near far)
  repetition_within is_luminance second near far hn hf =
      chosen_has (Between low high) is_luminance (mean near far) (cond second near far) (mean_within near far hn hf)
      (chosen_has (Between low high) second near far hn hf)

  pub towards_within : (y b : ℤ) → Between low high y → Between low high b → Between low high (towards y b)
  towards_within y b hy hb = (grind (arith, ints), grind (arith, ints))

  pub new_background_within : (is_forced : Bool) (k : BackgroundControl) (y before b : ℤ) → Between low high y → Between low high b
      → Between low high (new_background is_forced k y before b)
  new_background_within is_forced k y before b hy hb =
      let P = Between low high in
      let later = cond (not k.buc && leb (distance y before) 1) (towards y b) b in
      chosen_has P (is_forced || not k.brc) y later hy
      (chosen_has P (not k.buc && leb (distance y before) 1) (towards y b) b (towards_within y b hy hb) hb)

module _ {low high : ℤ} (bounds : Bounds low high) where
  pub zero_within : Between low high (pos 0)
  zero_within = (omega (arith, ints), omega (arith, ints))

  pub entered_within : (x : ℤ) (xs : List ℤ) → Between low high x → PelsWithin low high xs → PelsWithin low high (entered x xs)
  entered_within x xs = entered_within_if x xs zero_within

  -- a sum between the bounds is held as it is
  pub sum_kept : (z : ℤ) → Between low high z → (hold z ≡ z) × (altered z ≡ false)
  sum_kept z h = (grind (arith, ints), grind (arith, ints))

  -- a memory whose pels lie between the bounds, one pel more, and the memories together
  zeros_within : (n : ℕ) → PelsWithin low high (replicate n (pos 0))
  zeros_within n zero = zero_within
  zeros_within zero (suc i) = zero_within
  zeros_within (suc n) (suc zero) = zero_within
  zeros_within (suc n) (suc (suc i)) = zeros_within n (suc i)

  pub cleared_within : (s : Signal) → Cleared s → Within low high s
  cleared_within s clear =
      record {
        picture = subst (PelsWithin low high) (sym clear.picture) (zeros_within (length s.picture));
        background = subst (PelsWithin low high) (sym clear.background) (zeros_within (length s.background));
        line = subst (PelsWithin low high) (sym clear.line) (zeros_within (length s.line));
      }

  -- the error of a prepared pel
  pub error_within : (p z : ℤ) → Between low high p → Between (negsuc 123) (pos 123) z → nat_abs (z -ℤ p) ≤ largest_error
  error_within p z hp hz = omega (arith, ints)

  sum_up : (p z v : ℤ) → Between low high p → Between (negsuc 123) (pos 123) z → nat_abs v ≤ nat_abs (z -ℤ p) + 3
      → pos 0 ≤ℤ (z -ℤ p) → pos 0 ≤ℤ v → Between low high (p +ℤ v)
  sum_up p z v hp hz over he hv = (omega (arith, ints), omega (arith, ints))

  sum_down : (p z v : ℤ) → Between low high p → Between (negsuc 123) (pos 123) z → nat_abs v ≤ nat_abs (z -ℤ p) + 3
      → (z -ℤ p) ≤ℤ pos 0 → v ≤ℤ pos 0 → Between low high (p +ℤ v)
  sum_down p z v hp hz over he hv = (omega (arith, ints), omega (arith, ints))

  -- what coding makes of a pel: the prediction plus the value that stands for the error
  pub coded_within : {top shortfall : ℕ} {number value : ℤ → ℤ} → Lawful top shortfall number value
      → (p z : ℤ) → Between low high p → Between (negsuc 123) (pos 123) z → Between low high (p +ℤ value (number (z -ℤ p)))
  coded_within {number = number} {value = value} law p z hp hz =
      let fits = error_within p z hp hz in
      let e = z -ℤ p in
      let over = law.overshoot e fits in
      by_lt_z (pos 0) e
      (λ up. let from : pos 0 ≤ℤ e = omega (arith, ints) in sum_up p z (value (number e)) hp hz over from (error_value_up law e fits from))
      (λ down. sum_down p z (value (number e)) hp hz over down (error_value_down law e fits down))

-- a prepared pel lies from −124 to 123
pub prepared_within : (g : Geometry) (p : ℕ) (z : ℤ) → Between (negsuc 123) (pos 123) (prepared g p z)
prepared_within g p z =
    chosen_has (Between (negsuc 123) (pos 123)) (zeroed g p) (pos 0) (limited z) (omega (arith, ints), omega (arith, ints))
    (grind (arith, ints), grind (arith, ints))

-- a level byte is read back
pub level_back : (n : ℤ) → nat_abs n ≤ 127 → level_of (byte n) ≡ n
level_back (pos n) h = grind (arith, ints)
level_back (negsuc n) h = grind (arith, ints)

-- the value of a level number within the top, as its byte has it
pub level_value_lem : (top : ℕ) (values : ℤ → ℤ) (n : ℤ) → top ≤ 127 → nat_abs n ≤ top → level_value top values (byte n) ≡ values n
level_value_lem top values n most h =
    let back : level_of (byte n) ≡ n = level_back n (omega arith) in
    ap (λ z. unwrap_or z (pos 0)) (ap (within top values) back ∙ within_some top values n h)

-- a wider range holds what a narrower one holds
pub within_wider : {low low' high high' : ℤ} (s : Signal) → low' ≤ℤ low → high ≤ℤ high' → Within low high s → Within low' high' s
within_wider {low} {low'} {high} {high'} s hl hh w =
    record { picture = λ n. wider (w.picture n); background = λ n. wider (w.background n); line = λ n. wider (w.line n) }
  where
    wider : {z : ℤ} → Between low high z → Between low' high' z
    wider h = (omega (arith, ints), omega (arith, ints))
