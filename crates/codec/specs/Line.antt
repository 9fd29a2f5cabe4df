-- The lines of a block-line: its pels one after another, the flush of a pending line, and reset lines.
use Rattle.std.specs.Prelude.{ℕ, zero, suc, ◌+◌, ◌-◌, Bool, false, List, [], ◌∷◌, ℤ, pos, slice_index_or}
use Rattle.std.specs.Option.{unwrap_or}
use Rattle.format.specs.Bits.{level_of}
use Rattle.format.specs.Modes.{block_of}
use Rattle.format.specs.declared.words.Head.{Head}
use Rattle.quantizer.specs.Choice.{chosen}
use Rattle.quantizer.specs.Lawful.{within}
use Rattle.quantizer.specs.declared.characteristic.Characteristic.{Characteristic}
use Rattle.codec.specs.Modes.{pel_is_luminance}
use Rattle.codec.specs.Signal.{Signal, with_reset}
use Rattle.codec.specs.Step.{Course, step, settled, enter_y}
use Rattle.prediction.specs.declared.marks.BackgroundControl.{BackgroundControl}
use Rattle.codec.specs.declared.modes.BlockModes.{BlockModes}
use Rattle.codec.specs.declared.modes.Geometry.{Geometry}
use Rattle.codec.specs.declared.modes.LineModes.{LineModes}

-- the burst has no vector and is never subsampled
abbrev pub burst_modes : BlockModes
burst_modes = record { subsampled = false; delay = 0 }

-- the modes of the block that a pel lies in; the burst is the first of the list
abbrev pub block_at : List BlockModes → ℕ → BlockModes
block_at blocks p = slice_index_or blocks (block_of p - 1) burst_modes

-- the pels of a line from pel p on, a level byte each, with the value that a level byte stands for
abbrev pub pels : Geometry → BackgroundControl → LineModes → List BlockModes → (ℕ → ℤ) → ℕ → List ℕ → Course → Course
pels g k l blocks value p [] c = c
pels g k l blocks value p (x ∷ xs) c = pels g k l blocks value (p + 1) xs (step g k l (block_at blocks p) p (value x) c)

-- the clamped pels 1 to 3, which have no level
abbrev pub clamped_pels : Geometry → BackgroundControl → LineModes → Course → Course
clamped_pels g k l c = step g k l burst_modes 3 (pos 0) (step g k l burst_modes 2 (pos 0) (step g k l burst_modes 1 (pos 0) c))

-- a line of a block-line, from its level bytes
abbrev pub line_work : Geometry → BackgroundControl → LineModes → List BlockModes → (ℕ → ℤ) → List ℕ → Course → Course
line_work g k l blocks value levels c = pels g k l blocks value 4 levels (clamped_pels g k l c)

-- the last d pels of the pending line enter picture and background, with 0 below them
abbrev pub flush : Geometry → BackgroundControl → Bool → ℕ → Course → Course
flush g k is_forced zero c = c
flush g k is_forced (suc d) c =
    flush g k is_forced d
    (enter_y g k is_forced (settled g (pel_is_luminance g (g.width - d)) (suc d) (pos 0) c.signal.line c.signal.marks) c)

-- so many reset pels
abbrev pub resets : ℕ → Signal → Signal
resets zero s = s
resets (suc n) s = resets n (with_reset s)

-- the value of the level in a byte, in a characteristic of this top number and these values
abbrev pub level_value : ℕ → (ℤ → ℤ) → ℕ → ℤ
level_value top values x = unwrap_or (within top values (level_of x)) (pos 0)

-- the value of the level in a byte, in the characteristic that a head chooses
abbrev pub head_value : (Characteristic → ℕ) → (Characteristic → ℤ → ℤ) → Head → ℕ → ℤ
head_value tops values head = let q = chosen head.qc1 head.qc2 in level_value (tops q) (values q)
