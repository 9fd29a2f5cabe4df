-- What a coder finds: the prepared picture, the level of a pel, and the levels of a line.
use Rattle.std.specs.Prelude.{ℕ, ◌+◌, ◌-◌, Bool, true, false, cond, not, ◌&&◌, ◌||◌, List, [], ◌∷◌, drop, ℤ, pos, negsuc, ◌-ℤ◌, ◌==◌, int_lt, nat_le}
use Rattle.prediction.specs.Rules.{prediction, byte}
use Rattle.codec.specs.Line.{block_at, clamped_pels}
use Rattle.codec.specs.Modes.{pel_mode, lag}
use Rattle.codec.specs.Signal.{Signal, pel_at}
use Rattle.codec.specs.Step.{Course, intraframe_at, around, step}
use Rattle.format.specs.declared.words.Head.{Head}
use Rattle.quantizer.specs.Choice.{chosen}
use Rattle.quantizer.specs.declared.characteristic.Characteristic.{Characteristic}
use Rattle.prediction.specs.declared.marks.BackgroundControl.{BackgroundControl}
use Rattle.codec.specs.declared.modes.BlockModes.{BlockModes}
use Rattle.codec.specs.declared.modes.Geometry.{Geometry}
use Rattle.codec.specs.declared.modes.LineModes.{LineModes}
use Rattle.codec.specs.declared.modes.PelMode.{PelMode}
use Rattle.codec.specs.declared.modes.PelMode.TheVariants.{Clamped, Repeated, Subsampled, Forced, Burst, Adaptive}
use Rattle.codec.specs.declared.modes.Reading.{Reading}
use Rattle.codec.specs.declared.modes.Reading.TheVariants.{Uncoded, Omitted, Intraframe, FrameBefore, Surroundings}

-- a picture pel is limited to −124 to 123
abbrev pub limited : ℤ → ℤ
limited z = cond (int_lt z (negsuc 123)) (negsuc 123) (cond (int_lt (pos 123) z) (pos 123) z)

-- pels 1 to 3, pel 7 and the first luminance pel of a line become 0
abbrev pub zeroed : Geometry → ℕ → Bool
zeroed g p = nat_le p 3 || p == 7 || p == g.colour + 1

abbrev pub prepared : Geometry → ℕ → ℤ → ℤ
prepared g p z = cond (zeroed g p) (pos 0) (limited z)

-- the prediction, from what a pel reads; a pel that is not coded has none
abbrev pub prediction_from : Reading → ℤ
prediction_from (Uncoded y) = pos 0
prediction_from Omitted = pos 0
prediction_from (Intraframe i) = i
prediction_from (FrameBefore y) = y
prediction_from (Surroundings a) = prediction a

-- the prediction of a pel, by how it is worked; a pel that is not coded has none
abbrev pub prediction_as : PelMode → Geometry → LineModes → BlockModes → ℕ → Signal → ℤ
prediction_as Clamped g l b p s = pos 0
prediction_as Repeated g l b p s = pos 0
prediction_as Subsampled g l b p s = pos 0
prediction_as Forced g l b p s = intraframe_at s
prediction_as Burst g l b p s = pel_at s.picture (g.frame - lag g l.above p)
prediction_as Adaptive g l b p s = prediction (around g l.above b p s)

abbrev pub is_coded : PelMode → Bool
is_coded Clamped = false
is_coded Repeated = false
is_coded Subsampled = false
is_coded Forced = true
is_coded Burst = true
is_coded Adaptive = true

-- the level of a pel: the number of its error, the prepared pel minus the prediction; 0 where no pel is
-- coded, and everywhere under Stop
abbrev pub level_for : (ℤ → ℤ) → Bool → PelMode → ℤ → ℤ → ℤ
level_for number stop mode predicted pel = cond (is_coded mode && not stop) (number (pel -ℤ predicted)) (pos 0)

-- the level byte of a pel of a line, in a block
abbrev pub level_at : (ℤ → ℤ) → Bool → Geometry → LineModes → BlockModes → ℕ → ℤ → Signal → ℕ
level_at number stop g l b p z s =
    let mode = pel_mode l b.subsampled p in
    byte (level_for number stop mode (prediction_as mode g l b p s) (prepared g p z))

-- what the levels of a line so far are, and the frame's course after them
pub record Coded : Type 0 where
  pub levels : List ℕ
  pub after : Course

-- the pels of a line from pel p on: each level is found, and the memories move as a decoder's given that level
unfoldable pub code_pels : (ℤ → ℤ) → Bool → Geometry → BackgroundControl → LineModes → List BlockModes → (ℕ → ℤ) → ℕ → List ℤ → Course → Coded
code_pels number stop g k l blocks value p [] c = record { levels = []; after = c }
code_pels number stop g k l blocks value p (z ∷ zs) c =
    let b = block_at blocks p in
    let x = level_at number stop g l b p z c.signal in
    let rest = code_pels number stop g k l blocks value (p + 1) zs (step g k l b p (value x) c) in
    record { levels = x ∷ rest.levels; after = rest.after }

abbrev pub coded : List ℕ → Course → Coded
coded levels c = record { levels = levels; after = c }

-- a line of a block-line: the clamped pels, then the pels that have a level
abbrev pub code_line : (ℤ → ℤ) → Bool → Geometry → BackgroundControl → LineModes → List BlockModes → (ℕ → ℤ) → List ℤ → Course → Coded
code_line number stop g k l blocks value zs c = code_pels number stop g k l blocks value 4 (drop 3 zs) (clamped_pels g k l c)

-- the number of an error in the characteristic that a head chooses
abbrev pub head_number : (Characteristic → ℤ → ℤ) → Head → ℤ → ℤ
head_number numbers head = numbers (chosen head.qc1 head.qc2)
