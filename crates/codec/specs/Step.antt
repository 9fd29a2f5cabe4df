-- One pel of a block-line: where it looks, what follows, what enters the memories.
use Rattle.std.specs.Prelude.{ℕ, ◌+◌, ◌-◌, Bool, cond, List, ℤ, pos, bit_xor}
use Rattle.delay.specs.Delay.{entered}
use Rattle.codec.specs.Modes.{pel_mode, pel_is_luminance, lag}
use Rattle.prediction.specs.Rules.{intraframe, interpolation, repetition, adaptive, forced, burst, uncoded, skipped, new_background, byte}
use Rattle.codec.specs.Signal.{Signal, pel_at, marks_at}
use Rattle.prediction.specs.declared.marks.Marks.{Marks}
use Rattle.prediction.specs.declared.marks.MarksAround.{MarksAround}
use Rattle.prediction.specs.declared.marks.Around.{Around}
use Rattle.prediction.specs.declared.marks.BackgroundControl.{BackgroundControl}
use Rattle.prediction.specs.declared.marks.Worked.{Worked}
use Rattle.codec.specs.declared.modes.Above.{Above}
use Rattle.codec.specs.declared.modes.Above.TheVariants.{Reset, Pending}
use Rattle.codec.specs.declared.modes.BlockModes.{BlockModes}
use Rattle.codec.specs.declared.modes.Geometry.{Geometry}
use Rattle.codec.specs.declared.modes.LineModes.{LineModes}
use Rattle.codec.specs.declared.modes.PelMode.{PelMode}
use Rattle.codec.specs.declared.modes.PelMode.TheVariants.{Clamped, Repeated, Subsampled, Forced, Burst, Adaptive}
use Rattle.codec.specs.declared.modes.Reading.{Reading}
use Rattle.codec.specs.declared.modes.Reading.TheVariants.{Uncoded, Omitted, Intraframe, FrameBefore, Surroundings}
use Rattle.codec.specs.declared.modes.Tally.{Tally}

-- a frame's course so far: the memories, and what was counted
pub record Course : Type 0 where
  pub signal : Signal
  pub tally : Tally

abbrev pub course : Signal → Tally → Course
course s t = record { signal = s; tally = t }

-- the marks that the pel in work reads
abbrev pub marks_around : ℕ → List Marks → MarksAround
marks_around w ms =
    record { before = marks_at ms 1; second = marks_at ms 2; right = marks_at ms (w - 1); above = marks_at ms w; left = marks_at ms (w + 1) }

-- I at the pel in work
abbrev pub intraframe_at : Signal → ℤ
intraframe_at s = intraframe (pel_at s.line 1) (pel_at s.line 2) (marks_at s.marks 1)

-- the values that a coded pel reads; picture and background lag behind the pel in work
abbrev pub around : Geometry → Above → BlockModes → ℕ → Signal → Around
around g above b p s =
    record {
      intraframe = intraframe_at s;
      moved = pel_at s.picture (b.delay - lag g above p);
      background = pel_at s.background (g.frame - lag g above p);
      marks = marks_around g.width s.marks;
    }

-- what a pel reads, by how it is worked
abbrev pub reading_as : PelMode → Geometry → LineModes → BlockModes → ℕ → Signal → Reading
reading_as Clamped g l b p s = Uncoded (pos 0)
reading_as Repeated g l b p s =
    Uncoded (repetition (pel_is_luminance g p) l.second (pel_at s.picture (g.near - lag g l.above p)) (pel_at s.picture (g.far - lag g l.above p)))
reading_as Subsampled g l b p s = Omitted
reading_as Forced g l b p s = Intraframe (intraframe_at s)
reading_as Burst g l b p s = FrameBefore (pel_at s.picture (g.frame - lag g l.above p))
reading_as Adaptive g l b p s = Surroundings (around g l.above b p s)

-- what follows from what a pel reads and the value of its level
abbrev pub worked_from : Reading → ℤ → Worked
worked_from (Uncoded y) v = uncoded y
worked_from Omitted v = skipped
worked_from (Intraframe i) v = forced i v
worked_from (FrameBefore y) v = burst y v
worked_from (Surroundings a) v = adaptive a v

abbrev pub worked_as : PelMode → Geometry → LineModes → BlockModes → ℕ → ℤ → Signal → Worked
worked_as Clamped g l b p v s = uncoded (pos 0)
worked_as Repeated g l b p v s =
    uncoded (repetition (pel_is_luminance g p) l.second (pel_at s.picture (g.near - lag g l.above p)) (pel_at s.picture (g.far - lag g l.above p)))
worked_as Subsampled g l b p v s = skipped
worked_as Forced g l b p v s = forced (intraframe_at s) v
worked_as Burst g l b p v s = burst (pel_at s.picture (g.frame - lag g l.above p)) v
worked_as Adaptive g l b p v s = adaptive (around g l.above b p s) v

-- a pel of a line, in a block, with the value of its level
abbrev pub worked : Geometry → LineModes → BlockModes → ℕ → ℤ → Signal → Worked
worked g l b p v s = worked_as (pel_mode l b.subsampled p) g l b p v s

-- Y of a pel that lies d back in the line memory, with what stands below it
abbrev pub settled : Geometry → Bool → ℕ → ℤ → List ℤ → List Marks → ℤ
settled g luminance d below line marks =
    cond (marks_at marks d).omitted (interpolation luminance (pel_at line (d + 1)) (pel_at line (d - 1)) (pel_at line (d + g.width)) below) (pel_at line d)

-- Y enters the picture and the new background the background; Y is counted
abbrev pub enter_y : Geometry → BackgroundControl → Bool → ℤ → Course → Course
enter_y g k is_forced y c =
    let s = c.signal in
    record {
      signal =
          record {
            picture = entered y s.picture;
            background = entered (new_background is_forced k y (pel_at s.picture g.frame) (pel_at s.background g.frame)) s.background;
            line = s.line;
            marks = s.marks;
          };
      tally = record { planes = bit_xor c.tally.planes (byte y); held = c.tally.held };
    }

-- the pel above the one in work enters picture and background, unless its line is a reset line
abbrev pub settle_above : Geometry → BackgroundControl → Above → ℕ → ℤ → Course → Course
settle_above g k Reset p x c = c
settle_above g k (Pending is_forced) p x c =
    enter_y g k is_forced (settled g (pel_is_luminance g p) g.width x c.signal.line c.signal.marks) c

-- a worked pel enters the line memory and its marks the mark memory; a held pel is counted
abbrev pub enter_worked : Worked → Course → Course
enter_worked x c =
    let s = c.signal in
    record {
      signal = record { picture = s.picture; background = s.background; line = entered x.x s.line; marks = entered x.marks s.marks };
      tally = record { planes = c.tally.planes; held = cond x.held (c.tally.held + 1) c.tally.held };
    }

-- a worked pel enters, after the pel above it
abbrev pub enter_pel : Geometry → BackgroundControl → LineModes → ℕ → Worked → Course → Course
enter_pel g k l p x c = enter_worked x (settle_above g k l.above p x.x c)

-- one pel of a line
abbrev pub step : Geometry → BackgroundControl → LineModes → BlockModes → ℕ → ℤ → Course → Course
step g k l b p v c =
    let x = worked g l b p v c.signal in
    enter_worked x (settle_above g k l.above p x.x c)
