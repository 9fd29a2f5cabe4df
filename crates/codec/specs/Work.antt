-- A block-line in work: what it was made of, and what its lines and levels are worked by.
use Rattle.std.specs.Prelude.{◌≡◌, ℕ, List, ℤ}
use Rattle.format.specs.Record.{head_in}
use Rattle.quantizer.specs.declared.characteristic.Characteristic.{Characteristic}
use Rattle.codec.specs.Block.{geometry_of, control_of, blocks_of, line_modes}
use Rattle.codec.specs.Coding.{head_number}
use Rattle.codec.specs.Line.{head_value}
use Rattle.codec.specs.declared.modes.BlockLine.{BlockLine}
use Rattle.codec.specs.declared.modes.LineModes.{LineModes}

-- the bytes of a record, or of its front, give a block-line its head and blocks; the rest is its frame's
pub record IsOver {S : Type 0} (bytes : List ℕ) (line : BlockLine S) : Type 0 where
  pub head : line.head ≡ head_in bytes
  pub lengths : line.frame.g ≡ geometry_of line.raster
  pub control : line.frame.control ≡ control_of line.header
  pub blocks : line.blocks ≡ blocks_of (geometry_of line.raster) line.raster line.header.sbc bytes

-- the modes of one of its lines
abbrev pub modes_in : {S : Type 0} → BlockLine S → ℕ → LineModes
modes_in line number = line_modes line.header line.head line.second line.above number

-- what a level byte stands for in it, and the number of an error
abbrev pub value_in : {S : Type 0} → (S → Characteristic → ℕ) → (S → Characteristic → ℤ → ℤ) → BlockLine S → ℕ → ℤ
value_in tops values line = head_value (tops line.set.now) (values line.set.now) line.head

abbrev pub number_in : {S : Type 0} → (S → Characteristic → ℤ → ℤ) → BlockLine S → ℤ → ℤ
number_in numbers line = head_number (numbers line.set.now) line.head
