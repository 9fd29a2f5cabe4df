-- The record of a block-line: a head byte, the block words, and the levels of eight lines.
use Rattle.std.specs.Prelude.{◌≡◌, ℕ, ◌+◌, ◌-◌, ◌*◌, ◌%◌, Bool, true, cond, ◌&&◌, List, length, ℤ, Some, None, Ok, Err, Option, Result, ◌==◌, nat_le, slice_index}
use Rattle.std.specs.List.{between}
use Rattle.format.specs.Bits.{bit_at, stream_bit, field_of, twos_complement, level_of}
use Rattle.format.specs.Raster.{blocks, word_bytes, line_levels, record_length}
use Rattle.format.specs.declared.raster.Raster.{Raster}
use Rattle.format.specs.declared.words.Head.{Head}
use Rattle.format.specs.declared.words.BlockWord.{BlockWord}
use Rattle.format.specs.declared.words.Levels.{Levels}
use Rattle.format.specs.declared.refusal.Refusal.{Refusal}
use Rattle.format.specs.declared.refusal.Refusal.TheVariants.{WrongLength}

-- a record has as many bytes as its layout
abbrev pub is_whole : Raster → List ℕ → Bool
is_whole raster bytes = length bytes == record_length raster

-- a record of another length is refused
abbrev pub length_fits : Raster → List ℕ → Result (Unit {0}) Refusal
length_fits raster bytes = cond (is_whole raster bytes) (Ok tt) (Err (WrongLength (length bytes)))

-- the head byte is QC1 QC2 IFM FRP 1 1 1 1
abbrev pub head_of : ℕ → Head
head_of byte = record { qc1 = bit_at 7 byte; qc2 = bit_at 6 byte; ifm = bit_at 5 byte; frp = bit_at 4 byte }

unfoldable pub head_in : List ℕ → Head
head_in bytes = head_of (slice_index bytes 0)

-- the last four bits of the head byte are all 1
abbrev pub head_marked : List ℕ → Bool
head_marked bytes = slice_index bytes 0 % 16 == 15

-- the bytes of the block words, after the head byte
abbrev pub words_in : Raster → List ℕ → List ℕ
words_in raster bytes = between 1 (1 + word_bytes raster) bytes

-- a block word is ten bits of its stream: S, vx in five bits and vy in four, in two's complement
unfoldable pub word_of : List ℕ → ℕ → BlockWord
word_of words start = record {
  s = stream_bit words start;
  vx = twos_complement 16 (field_of words (start + 1) 5);
  vy = twos_complement 8 (field_of words (start + 6) 4);
}

-- the words stand one after another, that of block 2 first
unfoldable pub word_in : Raster → List ℕ → ℕ → BlockWord
word_in raster bytes block = word_of (words_in raster bytes) (10 * (block - 2))

-- there is a word for each of the blocks 2 to K + 1
abbrev pub has_word : Raster → ℕ → Bool
has_word raster block = nat_le 2 block && nat_le block (blocks raster + 1)

abbrev pub word_at : Raster → List ℕ → ℕ → Option BlockWord
word_at raster bytes block = cond (has_word raster block) (Some (word_in raster bytes block)) None

-- where the levels of a line begin
abbrev pub line_start : Raster → ℕ → ℕ
line_start raster line = 1 + word_bytes raster + (line - 1) * line_levels raster

-- the level bytes of a line
unfoldable pub line_in : Raster → List ℕ → ℕ → List ℕ
line_in raster bytes line = between (line_start raster line) (line_start raster line + line_levels raster) bytes

-- the level of a pel, from pel 4 on
unfoldable pub level_in : Raster → List ℕ → ℕ → ℕ → ℤ
level_in raster bytes line pel = level_of (slice_index (line_in raster bytes line) (pel - 4))

-- there are levels for each of the lines 1 to 8
abbrev pub has_line : ℕ → Bool
has_line line = nat_le 1 line && nat_le line 8

abbrev pub LevelsAt : Raster → List ℕ → ℕ → Option Levels → Type 0
LevelsAt raster bytes line None = has_line line ≡ true → ⊥
LevelsAt raster bytes line (Some levels) =
    (has_line line ≡ true) × (levels.line ≡ line) × (levels.bytes.now ≡ line_in raster bytes line)
    × (length levels.bytes.now ≡ line_levels raster)
