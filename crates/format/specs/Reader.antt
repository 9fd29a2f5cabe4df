-- What the reader of a record hands out: bytes of another length than the layout's have no parts.
use Rattle.std.specs.Prelude.{◌≡◌, ℕ, Bool, true, false, cond, ◌&&◌, List, length, Some, None, Option}
use Rattle.std.specs.Result.{result_and}
use Rattle.format.specs.Raster.{line_levels}
use Rattle.format.specs.Record.{is_whole, length_fits, head_in, word_at, has_line, line_in}
use Rattle.format.specs.RecordOver.{bytes_of}
use Rattle.format.specs.Usable.{Verdict, usable}
use Rattle.format.specs.declared.raster.Raster.{Raster}
use Rattle.format.specs.declared.reader.RecordReader.{RecordReader}
use Rattle.format.specs.declared.record.Record.{Record}
use Rattle.format.specs.declared.words.BlockWord.{BlockWord}
use Rattle.format.specs.declared.words.Head.{Head}
use Rattle.format.specs.declared.words.Levels.{Levels}

-- the bytes that a reader stands over
abbrev pub read_bytes : RecordReader → List ℕ
read_bytes reader = reader.bytes.now

-- the record that the bytes are, where they are as many as it has
abbrev pub RecordPart : Raster → List ℕ → Option Record → Type 0
RecordPart raster bytes None = is_whole raster bytes ≡ false
RecordPart raster bytes (Some whole) =
    (is_whole raster bytes ≡ true) × (whole.raster ≡ raster) × (bytes_of whole ≡ bytes)

abbrev pub head_part : Raster → List ℕ → Option Head
head_part raster bytes = cond (is_whole raster bytes) (Some (head_in bytes)) None

-- a word for each of the blocks 2 to K + 1
abbrev pub word_part : Raster → List ℕ → ℕ → Option BlockWord
word_part raster bytes block = cond (is_whole raster bytes) (word_at raster bytes block) None

-- levels for each of the lines 1 to 8
abbrev pub LevelsPart : Raster → List ℕ → ℕ → Option Levels → Type 0
LevelsPart raster bytes line None = (is_whole raster bytes && has_line line) ≡ true → ⊥
LevelsPart raster bytes line (Some levels) =
    (is_whole raster bytes ≡ true) × (has_line line ≡ true) × (levels.line ≡ line) × (levels.bytes.now ≡ line_in raster bytes line)
    × (length levels.bytes.now ≡ line_levels raster)

-- the length first, then the head, the words and the levels: the first refusal counts
abbrev pub verdict : Raster → Bool → ℕ → List ℕ → Verdict
verdict raster sbc top bytes = result_and (length_fits raster bytes) (usable raster sbc top bytes)
