-- The serial signal of an end: what its four memories hold, the newest first.
use Rattle.std.specs.Prelude.{ℕ, false, List, length, ℤ, pos}
use Rattle.std.specs.Option.{unwrap_or}
use Rattle.delay.specs.Delay.{look, entered}
use Rattle.format.specs.declared.refusal.MemoryName.{MemoryName}
use Rattle.format.specs.declared.refusal.MemoryName.TheVariants.{Picture, Background, Line, Marks as MarkMemory}
use Rattle.prediction.specs.Rules.{marked}
use Rattle.prediction.specs.declared.marks.Marks.{Marks}
use Rattle.codec.specs.declared.memories.Memories.{Memories}

pub record Signal : Type 0 where
  pub picture : List ℤ
  pub background : List ℤ
  pub line : List ℤ
  pub marks : List Marks

abbrev pub no_marks : Marks
no_marks = marked false false

-- the pel at a delay, 0 where the memory does not reach
abbrev pub pel_at : List ℤ → ℕ → ℤ
pel_at xs n = unwrap_or (look xs n) (pos 0)

-- the marks at a delay, none where the memory does not reach
abbrev pub marks_at : List Marks → ℕ → Marks
marks_at xs n = unwrap_or (look xs n) no_marks

-- what four memories mean together
module _ {P B L K : Type 0} (heldP : P → List ℤ) (heldB : B → List ℤ) (heldL : L → List ℤ) (heldK : K → List Marks) where
  abbrev pub signal : Memories P B L K → Signal
  signal m = record { picture = heldP m.picture; background = heldB m.background; line = heldL m.line; marks = heldK m.marks }

-- how many elements one of them holds
abbrev pub reach_of : MemoryName → Signal → ℕ
reach_of Picture s = length s.picture
reach_of Background s = length s.background
reach_of Line s = length s.line
reach_of MarkMemory s = length s.marks

-- a pel enters the picture and another the background
abbrev pub with_settled : ℤ → ℤ → Signal → Signal
with_settled y b s = record { picture = entered y s.picture; background = entered b s.background; line = s.line; marks = s.marks }

-- a pel enters the line memory and its marks the mark memory
abbrev pub with_worked : ℤ → Marks → Signal → Signal
with_worked x marks s = record { picture = s.picture; background = s.background; line = entered x s.line; marks = entered marks s.marks }

-- a reset pel enters all memories
abbrev pub with_reset : Signal → Signal
with_reset s = record { picture = entered (pos 0) s.picture; background = entered (pos 0) s.background; line = entered (pos 0) s.line; marks = entered no_marks s.marks }
