-- Reading and writing a record undo each other.
use Rattle.std.specs.Prelude.{◌≡◌, ℕ, ◌+◌, ◌-◌, ◌*◌, ◌/◌, ◌%◌, Bool, true, List, map, length, ℤ, pos, negsuc, nat_lt, slice_index_or}
use Rattle.std.specs.List.{range_with_len}
use Rattle.format.specs.Packing.{Bytes}
use Rattle.format.specs.Raster.{blocks, line_levels}
use Rattle.format.specs.Record.{is_whole, head_in, head_marked, has_word, word_in, has_line, level_in}
use Rattle.format.specs.RecordWriting.{no_word, record_bytes, Ranged}
use Rattle.format.specs.Sound.{has_level}
use Rattle.format.specs.Usable.{fill_in}
use Rattle.format.specs.declared.raster.Raster.{Raster}
use Rattle.format.specs.declared.words.BlockWord.{BlockWord}
use Rattle.format.specs.declared.words.Head.{Head}

-- a number from −half to half − 1
abbrev pub in_field : ℕ → ℤ → Bool
in_field half (pos n) = nat_lt n half
in_field half (negsuc n) = nat_lt n half

-- each level is one of a byte
abbrev pub LevelBytes : List ℤ → Type 0
LevelBytes levels = (i : ℕ) → in_field 128 (slice_index_or levels i (pos 0)) ≡ true

-- bytes in which the reader finds a head, the words of block 2 on, and levels line after line
pub record Holds (raster : Raster) (head : Head) (words : List BlockWord) (levels : List ℤ) (bytes : List ℕ) : Type 0 where
  pub whole : is_whole raster bytes ≡ true
  pub marked : head_marked bytes ≡ true
  pub filled : fill_in raster bytes ≡ 0
  pub same_head : head_in bytes ≡ head
  pub same_word : (block : ℕ) → has_word raster block ≡ true → word_in raster bytes block ≡ slice_index_or words (block - 2) no_word
  pub same_level : (line pel : ℕ) → has_line line ≡ true → has_level raster pel ≡ true
      → level_in raster bytes line pel ≡ slice_index_or levels ((line - 1) * line_levels raster + (pel - 4)) (pos 0)

-- reading what was written gives what was given
abbrev pub RecordsReadBack : Type 0
RecordsReadBack =
    (raster : Raster) (head : Head) (words : List BlockWord) (levels : List ℤ)
    → length words ≡ blocks raster → Ranged words → length levels ≡ 8 * line_levels raster → LevelBytes levels
    → Holds raster head words levels (record_bytes raster head words levels)

-- the words that are read, of the blocks 2 to K + 1
abbrev pub words_read : Raster → List ℕ → List BlockWord
words_read raster bytes = map (word_in raster bytes) (range_with_len 2 (blocks raster))

-- level k of those that are read, line after line, each line from pel 4 on
abbrev pub level_read : Raster → List ℕ → ℕ → ℤ
level_read raster bytes k = level_in raster bytes (1 + k / line_levels raster) (4 + k % line_levels raster)

abbrev pub levels_read : Raster → List ℕ → List ℤ
levels_read raster bytes = map (level_read raster bytes) (range_with_len 0 (8 * line_levels raster))

-- writing what was read gives the bytes, where their fixed bits are right
abbrev pub RecordBytesWrittenBack : Type 0
RecordBytesWrittenBack =
    (raster : Raster) (bytes : List ℕ) → Bytes bytes → is_whole raster bytes ≡ true → head_marked bytes ≡ true → fill_in raster bytes ≡ 0
    → record_bytes raster (head_in bytes) (words_read raster bytes) (levels_read raster bytes) ≡ bytes
