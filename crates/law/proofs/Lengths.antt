-- However a signal is worked, its four memories stay as long as they were.
use Rattle.std.proofs.Common.{◌≡◌, ℕ, zero, suc, ◌+◌, ◌*◌, Bool, eqb, leb, List, [], ◌∷◌, length, ℤ, pos, sym, refl, ◌∙◌, arith}
use Rattle.std.proofs.lemmas.Bool.{cond_both}
use Rattle.delay.proofs.Laws.{length-entered}
use Rattle.format.specs.Raster.{width}
use Rattle.format.specs.Record.{head_in, line_in}
use Rattle.format.specs.declared.header.Header.{Header}
use Rattle.format.specs.declared.raster.Raster.{Raster}
use Rattle.prediction.specs.declared.marks.BackgroundControl.{BackgroundControl}
use Rattle.prediction.specs.declared.marks.Worked.{Worked}
use Rattle.quantizer.specs.declared.characteristic.Characteristic.{Characteristic}
use Rattle.codec.specs.Block.{geometry_of, blocks_of, control_of, line_modes, lines_from, block_line_work, record_value}
use Rattle.codec.specs.Decoder.{Frame, above_next, flushed, between_fields, next_course}
use Rattle.codec.specs.Line.{burst_modes, block_at, pels, clamped_pels, line_work, flush, resets}
use Rattle.codec.specs.Modes.{pel_is_luminance}
use Rattle.codec.specs.Signal.{Signal, with_reset, no_marks}
use Rattle.codec.specs.Step.{Course, course, enter_y, enter_worked, settle_above, settled, worked, step}
use Rattle.codec.specs.declared.modes.Above.{Above}
use Rattle.codec.specs.declared.modes.Above.TheVariants.{Reset, Pending}
use Rattle.codec.specs.declared.modes.BlockModes.{BlockModes}
use Rattle.codec.specs.declared.modes.Geometry.{Geometry}
use Rattle.codec.specs.declared.modes.LineModes.{LineModes}
use Rattle.law.specs.Runs.{Sent}
use Rattle.law.proofs.Through.{Reach, Hand, onward_by, hand, beginning, ended, through}
use Rattle.law.proofs.Through

-- the memories of t are as long as those of s
pub record Lengths (s t : Signal) : Type 0 where
  pub picture : length t.picture ≡ length s.picture
  pub background : length t.background ≡ length s.background
  pub line : length t.line ≡ length s.line
  pub marks : length t.marks ≡ length s.marks

pub lengths_same : (s : Signal) → Lengths s s
lengths_same s = record { picture = refl; background = refl; line = refl; marks = refl }

pub lengths_back : {s t : Signal} → Lengths s t → Lengths t s
lengths_back k = record { picture = sym k.picture; background = sym k.background; line = sym k.line; marks = sym k.marks }

pub lengths_then : {s t u : Signal} → Lengths s t → Lengths t u → Lengths s u
lengths_then p q =
    record {
      picture = q.picture ∙ p.picture;
      background = q.background ∙ p.background;
      line = q.line ∙ p.line;
      marks = q.marks ∙ p.marks;
    }

-- memories as long as those that reach reach too
pub lengths_reach : (r : Raster) {s t : Signal} → Lengths s t → Reach r s → Reach r t
lengths_reach r l h = omega (arith, l, h)

pub lengths_reset : (s : Signal) → Lengths s (with_reset s)
lengths_reset s =
    record {
      picture = length-entered (pos 0) s.picture;
      background = length-entered (pos 0) s.background;
      line = length-entered (pos 0) s.line;
      marks = length-entered no_marks s.marks;
    }

pub lengths_resets : (n : ℕ) (s : Signal) → Lengths s (resets n s)
lengths_resets zero s = lengths_same s
lengths_resets (suc n) s = lengths_then (lengths_reset s) (lengths_resets n (with_reset s))

module _ (g : Geometry) (k : BackgroundControl) where
  pub lengths_enter_y : (is_forced : Bool) (y : ℤ) (c : Course) → Lengths c.signal (enter_y g k is_forced y c).signal
  lengths_enter_y is_forced y c =
      record { picture = length-entered y c.signal.picture; background = length-entered _ c.signal.background; line = refl; marks = refl }

  pub lengths_settle_above : (above : Above) (p : ℕ) (x : ℤ) (c : Course) → Lengths c.signal (settle_above g k above p x c).signal
  lengths_settle_above Reset p x c = lengths_same c.signal
  lengths_settle_above (Pending f) p x c =
      lengths_enter_y f (settled g (pel_is_luminance g p) g.width x c.signal.line c.signal.marks) c

  pub lengths_enter_worked : (x : Worked) (c : Course) → Lengths c.signal (enter_worked x c).signal
  lengths_enter_worked x c =
      record { picture = refl; background = refl; line = length-entered x.x c.signal.line; marks = length-entered x.marks c.signal.marks }

  pub lengths_step : (l : LineModes) (b : BlockModes) (p : ℕ) (v : ℤ) (c : Course) → Lengths c.signal (step g k l b p v c).signal
  lengths_step l b p v c =
      let x = worked g l b p v c.signal in
      lengths_then (lengths_settle_above l.above p x.x c) (lengths_enter_worked x (settle_above g k l.above p x.x c))

  pub lengths_flush : (is_forced : Bool) (d : ℕ) (c : Course) → Lengths c.signal (flush g k is_forced d c).signal
  lengths_flush is_forced zero c = lengths_same c.signal
  lengths_flush is_forced (suc d) c =
      lengths_then (lengths_enter_y is_forced _ c) (lengths_flush is_forced d (enter_y g k is_forced _ c))

  module _ (l : LineModes) where
    pub lengths_clamped : (c : Course) → Lengths c.signal (clamped_pels g k l c).signal
    lengths_clamped c =
        let c₁ = step g k l burst_modes 1 (pos 0) c in
        let c₂ = step g k l burst_modes 2 (pos 0) c₁ in
        lengths_then (lengths_step l burst_modes 1 (pos 0) c)
        (lengths_then (lengths_step l burst_modes 2 (pos 0) c₁) (lengths_step l burst_modes 3 (pos 0) c₂))

    module _ (blocks : List BlockModes) (value : ℕ → ℤ) where
      pub lengths_pels : (p : ℕ) (xs : List ℕ) (c : Course) → Lengths c.signal (pels g k l blocks value p xs c).signal
      lengths_pels p [] c = lengths_same c.signal
      lengths_pels p (x ∷ xs) c =
          lengths_then (lengths_step l (block_at blocks p) p (value x) c)
          (lengths_pels (p + 1) xs (step g k l (block_at blocks p) p (value x) c))

      pub lengths_line_work : (levels : List ℕ) (c : Course) → Lengths c.signal (line_work g k l blocks value levels c).signal
      lengths_line_work levels c = lengths_then (lengths_clamped c) (lengths_pels 4 levels (clamped_pels g k l c))

pub lengths_lines_from : (r : Raster) (h : Header) (second : Bool) (above : Above) (value : ℕ → ℤ) (bytes : List ℕ) (line count : ℕ) (c : Course)
    → Lengths c.signal (lines_from r h second above value bytes line count c).signal
unfolding lines_from
lengths_lines_from r h second above value bytes line zero c = lengths_same c.signal
lengths_lines_from r h second above value bytes line (suc count) c =
    lengths_then
    (lengths_line_work (geometry_of r) (control_of h) (line_modes h (head_in bytes) second above line) (blocks_of (geometry_of r) r h.sbc bytes) value (line_in r bytes line) c)
    (lengths_lines_from r h second above value bytes (line + 1) count _)

pub lengths_flushed : (f : Frame) (c : Course) → Lengths c.signal (flushed f c).signal
lengths_flushed f c = lengths_flush (geometry_of f.raster) (control_of f.header) f.forced (width f.raster) c

pub lengths_between_fields : (f : Frame) (c : Course) → Lengths c.signal (between_fields f c).signal
lengths_between_fields f c =
    cond_both (eqb f.done f.raster.block_lines)
    (course (resets (6 * width f.raster) (flushed f c).signal) (flushed f c).tally) c
    (λ d. Lengths c.signal d.signal)
    (λ _. lengths_then (lengths_flushed f c) (lengths_resets (6 * width f.raster) (flushed f c).signal))
    (λ _. lengths_same c.signal)

module _ (tops : Characteristic → ℕ) (values : Characteristic → ℤ → ℤ) where
  pub lengths_next_course : (f : Frame) (bytes : List ℕ) (s : Signal) → Lengths s (next_course tops values f bytes s).signal
  unfolding block_line_work
  lengths_next_course f bytes s =
      let c = course s f.tally in
      lengths_then (lengths_between_fields f c)
      (lengths_lines_from f.raster f.header (leb f.raster.block_lines f.done) (above_next f) (record_value tops values bytes) bytes 1 8 (between_fields f c))

  pub lengths_hand : (records : List (List ℕ)) (b : Hand) → Lengths b.signal (hand tops values records b).signal
  unfolding onward_by
  lengths_hand [] b = lengths_same b.signal
  lengths_hand (bytes ∷ older) b =
      let earlier = hand tops values older b in
      lengths_then (lengths_hand older b) (lengths_next_course earlier.frame bytes earlier.signal)

  module _ (r : Raster) where
    pub lengths_worked : (sent : Sent) (s : Signal) → Lengths s (Through.worked tops values r sent s).signal
    unfolding Through.worked
    lengths_worked sent s = lengths_then (lengths_resets (7 * width r) s) (lengths_hand sent.records (beginning tops values r sent s))

    pub lengths_ended : (sent : Sent) (s : Signal) → Lengths s (ended tops values r sent s).signal
    unfolding ended
    lengths_ended sent s =
        let b = Through.worked tops values r sent s in
        lengths_then (lengths_worked sent s) (lengths_flushed b.frame (course b.signal b.frame.tally))

    -- a frame keeps the reach
    pub reach_ended : (sent : Sent) (s : Signal) → Reach r s → Reach r (ended tops values r sent s).signal
    reach_ended sent s = lengths_reach r (lengths_ended sent s)

    pub reach_worked : (sent : Sent) (s : Signal) → Reach r s → Reach r (Through.worked tops values r sent s).signal
    reach_worked sent s = lengths_reach r (lengths_worked sent s)

    -- frames one after another keep it too, and what they leave tells of what they found
    pub reach_through : (frames : List Sent) (s : Signal) → Reach r s → Reach r (through tops values r frames s)
    reach_through [] s h = h
    reach_through (x ∷ frames) s h = reach_ended x (through tops values r frames s) (reach_through frames s h)

    pub reach_start : (frames : List Sent) (s : Signal) → Reach r (through tops values r frames s) → Reach r s
    reach_start [] s h = h
    reach_start (x ∷ frames) s h = reach_start frames s (lengths_reach r (lengths_back (lengths_ended x (through tops values r frames s))) h)
