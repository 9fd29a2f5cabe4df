-- What a pel reads is all that its rules and its prediction depend on.
use Rattle.std.proofs.Common.{◌≡◌, ℕ, ℤ, refl, sym, ap, ◌∙◌}
use Rattle.prediction.specs.declared.marks.Worked.{Worked}
use Rattle.codec.specs.Coding.{prediction_from, prediction_as}
use Rattle.codec.specs.Signal.{Signal}
use Rattle.codec.specs.Step.{reading_as, worked_from, worked_as}
use Rattle.codec.specs.declared.modes.BlockModes.{BlockModes}
use Rattle.codec.specs.declared.modes.Geometry.{Geometry}
use Rattle.codec.specs.declared.modes.LineModes.{LineModes}
use Rattle.codec.specs.declared.modes.PelMode.{PelMode}
use Rattle.codec.specs.declared.modes.Reading.{Reading}
use Rattle.codec.specs.declared.modes.PelMode.TheVariants.{Clamped, Repeated, Subsampled, Forced, Burst, Adaptive}

pub worked_reading : (mode : PelMode) (g : Geometry) (l : LineModes) (b : BlockModes) (p : ℕ) (v : ℤ) (s : Signal)
    → worked_as mode g l b p v s ≡ worked_from (reading_as mode g l b p s) v
worked_reading Clamped g l b p v s = refl
worked_reading Repeated g l b p v s = refl
worked_reading Subsampled g l b p v s = refl
worked_reading Forced g l b p v s = refl
worked_reading Burst g l b p v s = refl
worked_reading Adaptive g l b p v s = refl

pub predicted_reading : (mode : PelMode) (g : Geometry) (l : LineModes) (b : BlockModes) (p : ℕ) (s : Signal)
    → prediction_as mode g l b p s ≡ prediction_from (reading_as mode g l b p s)
predicted_reading Clamped g l b p s = refl
predicted_reading Repeated g l b p s = refl
predicted_reading Subsampled g l b p s = refl
predicted_reading Forced g l b p s = refl
predicted_reading Burst g l b p s = refl
predicted_reading Adaptive g l b p s = refl

-- found step by step: the mode, what is read in it, and what follows
pub worked_read : (g : Geometry) (l : LineModes) (b : BlockModes) (p : ℕ) (s : Signal) {mode m : PelMode} {r : Reading} {v w : ℤ} {x : Worked}
    → m ≡ mode → r ≡ reading_as m g l b p s → w ≡ v → x ≡ worked_from r w → x ≡ worked_as mode g l b p v s
worked_read g l b p s {mode} {m} {r} {v} {w} em er ew ex =
    ex ∙ ap (worked_from r) ew ∙ ap (λ z. worked_from z v) (er ∙ ap (λ z. reading_as z g l b p s) em) ∙ sym (worked_reading mode g l b p v s)
