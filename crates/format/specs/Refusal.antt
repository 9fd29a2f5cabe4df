-- The number and the place of each refusal, by its cases.
use Rattle.std.specs.Prelude.{ℕ}
use Rattle.format.specs.declared.refusal.MemoryName.TheVariants.{Picture, Background, Line, Marks}
use Rattle.format.specs.declared.refusal.HeaderByte.TheVariants.{Fm1, Fm2}
use Rattle.format.specs.declared.refusal.Refusal.{Refusal}
use Rattle.format.specs.declared.refusal.Refusal.TheVariants.{RasterLimits, MemoryReach, BlockLineCount, WrongLength, FixedHeaderBit, FixedHeadBits, ForcedRepeat, StrayWord, VectorRange, LevelValue}

abbrev pub number_of : Refusal → ℕ
number_of RasterLimits = 1
number_of (MemoryReach m) = 2
number_of (BlockLineCount n) = 3
number_of (WrongLength n) = 4
number_of (FixedHeaderBit b) = 5
number_of FixedHeadBits = 6
number_of ForcedRepeat = 7
number_of (StrayWord n) = 8
number_of (VectorRange n) = 9
number_of (LevelValue n) = 10

abbrev pub place_of : Refusal → ℕ
place_of RasterLimits = 0
place_of (MemoryReach Picture) = 1
place_of (MemoryReach Background) = 2
place_of (MemoryReach Line) = 3
place_of (MemoryReach Marks) = 4
place_of (BlockLineCount n) = n
place_of (WrongLength n) = n
place_of (FixedHeaderBit Fm1) = 1
place_of (FixedHeaderBit Fm2) = 2
place_of FixedHeadBits = 0
place_of ForcedRepeat = 0
place_of (StrayWord n) = n
place_of (VectorRange n) = n
place_of (LevelValue n) = n
