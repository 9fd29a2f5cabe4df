-- What holds of a record that is usable, in each of its places.
use Rattle.std.specs.Prelude.{◌≡◌, ℕ, ◌≤◌, Bool, true, ◌&&◌, List, pos, nat_le, unsigned_abs}
use Rattle.format.specs.Modes.{repeated}
use Rattle.format.specs.Raster.{width}
use Rattle.format.specs.Record.{head_in, head_marked, word_in, has_word, level_in, has_line}
use Rattle.format.specs.Usable.{zero_word, fill_in, omitted}
use Rattle.format.specs.declared.raster.Raster.{Raster}

-- there are levels for the pels 4 to w
abbrev pub has_level : Raster → ℕ → Bool
has_level raster pel = nat_le 4 pel && nat_le pel (width raster)

pub record Sound (raster : Raster) (sbc : Bool) (top : ℕ) (bytes : List ℕ) : Type 0 where
  -- the last four bits of the head are 1
  pub marked : head_marked bytes ≡ true
  -- a repeated block-line is not forced
  pub unforced : repeated (head_in bytes) ≡ true → (head_in bytes).ifm ≡ true
  -- a block has S only under SBC
  pub subsampling : (block : ℕ) → has_word raster block ≡ true → (word_in raster bytes block).s ≡ true → sbc ≡ true
  -- the words of a repeated block-line are 0
  pub still : (block : ℕ) → has_word raster block ≡ true → repeated (head_in bytes) ≡ true → zero_word (word_in raster bytes block) ≡ true
  -- the bits after the words are 0
  pub filled : fill_in raster bytes ≡ 0
  -- vectors lie between −15 and 15, and −7 and 7
  pub horizontal : (block : ℕ) → has_word raster block ≡ true → unsigned_abs (word_in raster bytes block).vx ≤ 15
  pub vertical : (block : ℕ) → has_word raster block ≡ true → unsigned_abs (word_in raster bytes block).vy ≤ 7
  -- levels lie within the top
  pub within : (line pel : ℕ) → has_line line ≡ true → has_level raster pel ≡ true → unsigned_abs (level_in raster bytes line pel) ≤ top
  -- the level of an omitted pel is 0
  pub silent : (line pel : ℕ) → has_line line ≡ true → has_level raster pel ≡ true → omitted raster sbc bytes line pel ≡ true → level_in raster bytes line pel ≡ pos 0
