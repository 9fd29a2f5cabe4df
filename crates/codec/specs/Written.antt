-- What a coder writes, part after part, and what has to be true before.
use Rattle.std.specs.Prelude.{◌≡◌, ℕ, ◌<◌, List, ◌++◌, length, ℤ}
use Rattle.format.specs.Front.{front_length}
use Rattle.format.specs.Raster.{record_length}
use Rattle.format.specs.declared.raster.Raster.{Raster}
use Rattle.codec.specs.Coder.{picture_length}
use Rattle.codec.specs.Coding.{Coded, coded}
use Rattle.codec.specs.Decoder.{block_lines}

-- what is written already stands before what is found next
abbrev pub before : List ℕ → Coded → Coded
before written rest = coded (written ++ rest.levels) rest.after

-- a block-line is left to code, and what is given for it has the lengths of its layout
pub record Fitting (r : Raster) (done : ℕ) (front : List ℕ) (picture : List ℤ) (buffer : List ℕ) : Type 0 where
  pub turn : done < block_lines r
  pub fronted : length front ≡ front_length r
  pub pels : length picture ≡ picture_length r
  pub room : length buffer ≡ record_length r
