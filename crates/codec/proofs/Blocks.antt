-- The blocks of a block-line, each made of its word.
use Rattle.std.proofs.Common.{◌≡◌, ℕ, ◌+◌, ◌<◌, Bool, List, length, get_or, sym, ◌∙◌, arith}
use Rattle.std.proofs.lemmas.List.FromFn.{length-map-range_with_len, get_or-map-range_with_len}
use Rattle.std.proofs.lemmas.List.{ext_get_or}
use Rattle.format.specs.Record.{head_in, word_at}
use Rattle.format.specs.declared.raster.Raster.{Raster}
use Rattle.codec.specs.Block.{modes_of, blocks_of, most_blocks}
use Rattle.codec.specs.Line.{burst_modes}
use Rattle.codec.specs.declared.modes.BlockModes.{BlockModes}
use Rattle.codec.specs.declared.modes.Geometry.{Geometry}

module _ (g : Geometry) (raster : Raster) (sbc : Bool) (bytes : List ℕ) where
  abbrev pub of_block : ℕ → BlockModes
  of_block b = modes_of g sbc (head_in bytes) (word_at raster bytes b)

  pub blocks_all : (xs : List BlockModes) → length xs ≡ most_blocks → ((k : ℕ) → k < most_blocks → get_or xs k burst_modes ≡ of_block (1 + k)) → xs ≡ blocks_of g raster sbc bytes
  unfolding blocks_of
  blocks_all xs n each =
      ext_get_or burst_modes xs (blocks_of g raster sbc bytes) (n ∙ sym (length-map-range_with_len of_block 1 most_blocks))
      (λ i h. let l : i < most_blocks = omega arith in each i l ∙ sym (get_or-map-range_with_len of_block 1 most_blocks i (1 + i) burst_modes l (omega arith)))
