-- The front of a record, its head and its words: what a coder is given, and what it writes of it.
use Rattle.std.specs.Prelude.{ℕ, ◌+◌, Bool, cond, List, ◌∷◌, map, pos, slice_index}
use Rattle.std.specs.List.{range_with_len}
use Rattle.format.specs.Raster.{word_bytes}
use Rattle.format.specs.RecordWriting.{words_byte}
use Rattle.format.specs.Survival.{words_read}
use Rattle.format.specs.declared.raster.Raster.{Raster}
use Rattle.format.specs.declared.words.BlockWord.{BlockWord}

-- bytes of a front: the head and the block words
abbrev pub front_length : Raster → ℕ
front_length raster = 1 + word_bytes raster

-- the word of a block whose vector is 0; S stays
abbrev pub still : BlockWord → BlockWord
still word = record { s = word.s; vx = pos 0; vy = pos 0 }

-- the front with every vector 0; the head stays
unfoldable pub stilled : Raster → List ℕ → List ℕ
stilled raster front = slice_index front 0 ∷ map (words_byte (map still (words_read raster front))) (range_with_len 0 (word_bytes raster))

-- Stop writes every vector as 0
abbrev pub front_written : Raster → Bool → List ℕ → List ℕ
front_written raster stop front = cond stop (stilled raster front) front
