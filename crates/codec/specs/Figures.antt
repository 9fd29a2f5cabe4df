-- Figures worked by hand, of the definitions that the decoder's contracts use.
use Rattle.std.specs.Prelude.{◌≡◌, true, false, ℤ, pos, negsuc, ◌-ℤ◌}
use Rattle.prediction.specs.Rules.{mean, luminance, new_background, sum}
use Rattle.prediction.specs.declared.marks.BackgroundControl.{BackgroundControl}
use Rattle.quantizer.specs.Figures.{stands_for}
use Rattle.quantizer.specs.declared.characteristic.Characteristic.TheVariants.{Q0, Q2, Q3}

-- BUC alone is 0
abbrev pub updating : BackgroundControl
updating = record { brc = true; buc = false }

-- the pel that a coder and a decoder find for a prepared pel, under a prediction
abbrev pub coded_pel : ℤ → ℤ → ℤ
coded_pel prediction pel = (sum prediction (stands_for Q0 (pel -ℤ prediction))).pel

pub record WorkedFigures : Type 0 where
  pub mean_0_1 : mean (pos 0) (pos 1) ≡ pos 1
  pub mean_minus_1_0 : mean (negsuc 0) (pos 0) ≡ pos 0
  pub mean_minus_4_0 : mean (negsuc 3) (pos 0) ≡ negsuc 1
  -- left 0, right 1, above 0, below 0
  pub omitted : luminance (pos 0) (pos 1) (pos 0) (pos 0) ≡ pos 1
  -- Q3 takes −6 to 0 and −7 to −7, Q2 takes 125 to 127
  pub small : stands_for Q3 (negsuc 5) ≡ pos 0
  pub larger : stands_for Q3 (negsuc 6) ≡ negsuc 6
  pub top : stands_for Q2 (pos 125) ≡ pos 127
  -- background 5, Y 9: it follows where Y was 10 a frame before, and stays where Y was 11
  pub follows : new_background false updating (pos 9) (pos 10) (pos 5) ≡ pos 6
  pub stays : new_background false updating (pos 9) (pos 11) (pos 5) ≡ pos 5
  -- prediction −1, pel 123, Q0
  pub overshoots : coded_pel (negsuc 0) (pos 123) ≡ pos 126
