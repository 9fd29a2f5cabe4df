-- A block-line: the modes of its blocks and lines, and its eight lines one after another.
use Rattle.std.specs.Prelude.{ℕ, zero, suc, ◌+◌, ◌-◌, ◌*◌, Bool, cond, List, map, ℤ, pos, negsuc, ◌+ℤ◌, ◌*ℤ◌, Some, None, Option, ◌==◌}
use Rattle.std.specs.List.{range_with_len}
use Rattle.format.specs.Modes.{subsampled, forced_line, repeated}
use Rattle.format.specs.Raster.{width, frame}
use Rattle.format.specs.Record.{head_in, word_at, line_in}
use Rattle.format.specs.declared.header.Header.{Header}
use Rattle.format.specs.declared.raster.Raster.{Raster}
use Rattle.format.specs.declared.words.BlockWord.{BlockWord}
use Rattle.format.specs.declared.words.Head.{Head}
use Rattle.quantizer.specs.declared.characteristic.Characteristic.{Characteristic}
use Rattle.codec.specs.Line.{burst_modes, line_work, head_value}
use Rattle.codec.specs.Step.{Course}
use Rattle.prediction.specs.declared.marks.BackgroundControl.{BackgroundControl}
use Rattle.codec.specs.declared.modes.Above.{Above}
use Rattle.codec.specs.declared.modes.Above.TheVariants.{Pending}
use Rattle.codec.specs.declared.modes.BlockModes.{BlockModes}
use Rattle.codec.specs.declared.modes.Geometry.{Geometry}
use Rattle.codec.specs.declared.modes.LineModes.{LineModes}

-- the lengths of a raster that delays are made of; a repeated pel looks 6 + 8 n and 7 + 8 n lines back
abbrev pub geometry_of : Raster → Geometry
geometry_of r =
    record {
      width = width r;
      frame = frame r;
      near = (6 + 8 * r.block_lines) * width r;
      far = (7 + 8 * r.block_lines) * width r;
      colour = 7 + 16 * r.colour;
    }

abbrev pub natural : ℤ → ℕ
natural (pos n) = n
natural (negsuc n) = 0

-- the delay of a vector: a frame, and vx pels and vy lines more
abbrev pub vector_delay : Geometry → ℤ → ℤ → ℕ
vector_delay g vx vy = natural (pos g.frame +ℤ vx +ℤ pos g.width *ℤ vy)

-- the modes of a block, from its word; one that has no word has those of the burst
abbrev pub modes_of : Geometry → Bool → Head → Option BlockWord → BlockModes
modes_of g sbc head None = burst_modes
modes_of g sbc head (Some word) = record { subsampled = subsampled sbc head word; delay = vector_delay g word.vx word.vy }

-- no line has more blocks, the burst among them
abbrev pub most_blocks : ℕ
most_blocks = 29

-- the blocks of a block-line, block 1 first
unfoldable pub blocks_of : Geometry → Raster → Bool → List ℕ → List BlockModes
blocks_of g raster sbc bytes = map (λ b. modes_of g sbc (head_in bytes) (word_at raster bytes b)) (range_with_len 1 most_blocks)

abbrev pub control_of : Header → BackgroundControl
control_of h = record { brc = h.brc; buc = h.buc }

abbrev pub line_is_forced : Header → Head → ℕ → Bool
line_is_forced h head line = forced_line h.drm h.crm1 h.crm2 head line

-- the modes of a line: the line above is the one before it in the block-line, or what stands above line 1
abbrev pub line_modes : Header → Head → Bool → Above → ℕ → LineModes
line_modes h head second above line =
    record {
      number = line;
      forced = line_is_forced h head line;
      repeated = repeated head;
      second = second;
      above = cond (line == 1) above (Pending (line_is_forced h head (line - 1)));
    }

-- so many lines of a block-line from a line on
unfoldable pub lines_from : Raster → Header → Bool → Above → (ℕ → ℤ) → List ℕ → ℕ → ℕ → Course → Course
lines_from r h second above value bytes line zero c = c
lines_from r h second above value bytes line (suc count) c =
    let g = geometry_of r in
    lines_from r h second above value bytes (line + 1) count
    (line_work g (control_of h) (line_modes h (head_in bytes) second above line) (blocks_of g r h.sbc bytes) value (line_in r bytes line) c)

-- the eight lines of a block-line
unfoldable pub block_line_work : Raster → Header → Bool → Above → (ℕ → ℤ) → List ℕ → Course → Course
block_line_work r h second above value bytes c = lines_from r h second above value bytes 1 8 c

-- what a level byte of a record stands for: its head chooses the characteristic
abbrev pub record_value : (Characteristic → ℕ) → (Characteristic → ℤ → ℤ) → List ℕ → ℕ → ℤ
record_value tops values bytes = head_value tops values (head_in bytes)
