-- The decoder: what each of its calls answers and what the memories hold next.
use Rattle.std.specs.Prelude.{◌≡◌, ℕ, ◌+◌, ◌*◌, Bool, true, false, cond, ◌||◌, List, length, ℤ, Ok, Err, Result, ◌==◌, bit_xor, nat_le, nat_lt}
use Rattle.std.specs.Result.{result_and}
use Rattle.format.specs.Header.{read_header}
use Rattle.format.specs.Raster.{width, picture_reach, line_reach, mark_reach}
use Rattle.format.specs.Reader.{verdict}
use Rattle.format.specs.Record.{head_in, is_whole}
use Rattle.format.specs.Usable.{Verdict, refuse_if}
use Rattle.format.specs.declared.header.Header.{Header}
use Rattle.format.specs.declared.words.Head.{Head}
use Rattle.format.specs.declared.raster.Raster.{Raster}
use Rattle.format.specs.declared.refusal.MemoryName.TheVariants.{Picture, Background, Line, Marks}
use Rattle.format.specs.declared.refusal.Refusal.{Refusal}
use Rattle.format.specs.declared.refusal.Refusal.TheVariants.{MemoryReach, BlockLineCount}
use Rattle.quantizer.specs.Choice.{chosen}
use Rattle.quantizer.specs.declared.characteristic.Characteristic.{Characteristic}
use Rattle.codec.specs.Block.{geometry_of, control_of, line_is_forced, block_line_work, record_value}
use Rattle.codec.specs.Line.{flush, resets}
use Rattle.codec.specs.Signal.{Signal}
use Rattle.codec.specs.Step.{Course, course}
use Rattle.codec.specs.declared.decoder.Decoder.{Decoder as DecoderEnd}
use Rattle.codec.specs.declared.decoder.Opened.{Opened}
use Rattle.codec.specs.declared.end.Finished.{Finished as FinishedEnd}
use Rattle.codec.specs.declared.end.Idle.{Idle as IdleEnd}
use Rattle.codec.specs.declared.end.Open.{Open as OpenEnd}
use Rattle.codec.specs.declared.end.Refused.{Refused}
use Rattle.codec.specs.declared.modes.Above.{Above}
use Rattle.codec.specs.declared.modes.Above.TheVariants.{Reset, Pending}
use Rattle.codec.specs.declared.modes.Tally.{Tally}

-- an end with no frame in hand: its raster, and the parity of its last frame
pub record Idle : Type 0 where
  pub raster : Raster
  pub parity : ℕ

abbrev pub idle_of : {E : Type 0} → IdleEnd E → Idle
idle_of e = record { raster = e.raster; parity = e.parity }

-- the frame in hand: how many of its block-lines are done, whether the pending line is forced, and what was counted
pub record Frame : Type 0 where
  pub raster : Raster
  pub header : Header
  pub done : ℕ
  pub forced : Bool
  pub tally : Tally

abbrev pub frame_of : {E : Type 0} → OpenEnd E → Frame
frame_of e = record { raster = e.raster; header = e.header; done = e.done; forced = e.forced; tally = e.tally }

-- each memory reaches as far as the raster asks, in the order picture, background, line memory, marks
abbrev pub reach_test : Raster → Signal → Verdict
reach_test r s =
    result_and (refuse_if (nat_lt (length s.picture) (picture_reach r)) (MemoryReach Picture))
    (result_and (refuse_if (nat_lt (length s.background) (picture_reach r)) (MemoryReach Background))
    (result_and (refuse_if (nat_lt (length s.line) (line_reach r)) (MemoryReach Line))
    (refuse_if (nat_lt (length s.marks) (mark_reach r)) (MemoryReach Marks))))

-- a new end holds the parity of a frame with no ones
abbrev pub new_end : Raster → Idle
new_end r = record { raster = r; parity = 255 }

abbrev pub refused : {E : Type 0} → E → Refusal → Refused E
refused e why = record { end = e; refusal = why }

-- a frame of which nothing is done
abbrev pub begun : Raster → Header → Frame
begun r h = record { raster = r; header = h; done = 0; forced = false; tally = record { planes = 0; held = 0 } }

-- OPENING. An accepted header brings 7 reset lines into all memories and names the planes in which its
-- parity differs from that of the end's last frame; a refused one leaves all as it was.
abbrev pub opened_on : Idle → Signal → Result Header Refusal → Result (Frame × ℕ) (Refused Idle) × Signal
opened_on e s (Err why) = (Err (refused e why), s)
opened_on e s (Ok h) = (Ok (begun e.raster h, bit_xor h.parity e.parity), resets (7 * width e.raster) s)

abbrev pub opening : Idle → List ℕ → Signal → Result (Frame × ℕ) (Refused Idle) × Signal
opening e bytes s = opened_on e s (result_and (reach_test e.raster s) (read_header bytes))

-- what an opening answered, with the states as their numbers
abbrev pub opened_as : Result Opened (Refused (IdleEnd DecoderEnd)) → Result (Frame × ℕ) (Refused Idle)
opened_as (Ok o) = Ok (frame_of o.end, o.planes)
opened_as (Err e) = Err (refused (idle_of e.end) e.refusal)

-- a frame has n block-lines in each field
abbrev pub block_lines : Raster → ℕ
block_lines r = 2 * r.block_lines

-- the line above line 1 of the next block-line is a reset line where a field begins
abbrev pub above_next : Frame → Above
above_next f = cond (f.done == 0 || f.done == f.raster.block_lines) Reset (Pending f.forced)

-- the pending line of the frame in hand enters picture and background, with 0 below it
abbrev pub flushed : Frame → Course → Course
flushed f c = flush (geometry_of f.raster) (control_of f.header) f.forced (width f.raster) c

-- before the second field the pending line is flushed, and 6 reset lines follow it
abbrev pub between_fields : Frame → Course → Course
between_fields f c =
    cond (f.done == f.raster.block_lines)
    (course (resets (6 * width f.raster) (flushed f c).signal) (flushed f c).tally) c

-- the top number of the characteristic that a record chooses
abbrev pub top_in : (Characteristic → ℕ) → List ℕ → ℕ
top_in tops bytes = tops (chosen (head_in bytes).qc1 (head_in bytes).qc2)

-- a verdict, with the head of a record that passed
abbrev pub Accepts : Verdict → Raster → List ℕ → Result Head Refusal → Type 0
Accepts v r bytes (Err why) = v ≡ Err why
Accepts v r bytes (Ok head) = (v ≡ Ok tt) × (is_whole r bytes ≡ true) × (head ≡ head_in bytes)

-- BLOCK-LINE. An accepted record works the eight lines of the next block-line; a refused one leaves all as it was.
module _ (tops : Characteristic → ℕ) (values : Characteristic → ℤ → ℤ) where
  abbrev pub record_test : Frame → List ℕ → Signal → Verdict
  record_test f bytes s =
      result_and (reach_test f.raster s)
      (result_and (refuse_if (nat_le (block_lines f.raster) f.done) (BlockLineCount f.done))
      (verdict f.raster f.header.sbc (top_in tops bytes) bytes))

  -- the course of the frame after the block-line
  abbrev pub next_course : Frame → List ℕ → Signal → Course
  next_course f bytes s =
      block_line_work f.raster f.header (nat_le f.raster.block_lines f.done) (above_next f) (record_value tops values bytes) bytes
      (between_fields f (course s f.tally))

  abbrev pub onward : Frame → List ℕ → Tally → Frame
  onward f bytes t =
      record { raster = f.raster; header = f.header; done = f.done + 1; forced = line_is_forced f.header (head_in bytes) 8; tally = t }

  abbrev pub block_line_on : Frame → List ℕ → Signal → Verdict → Result Frame (Refused Frame) × Signal
  block_line_on f bytes s (Err why) = (Err (refused f why), s)
  block_line_on f bytes s (Ok _) = let c = next_course f bytes s in (Ok (onward f bytes c.tally), c.signal)

  abbrev pub block_line : Frame → List ℕ → Signal → Result Frame (Refused Frame) × Signal
  block_line f bytes s = block_line_on f bytes s (record_test f bytes s)

-- what a block-line answered, with the frame in hand as its numbers
abbrev pub block_line_as : {E : Type 0} → Result (OpenEnd E) (Refused (OpenEnd E)) → Result Frame (Refused Frame)
block_line_as (Ok e) = Ok (frame_of e)
block_line_as (Err e) = Err (refused (frame_of e.end) e.refusal)

-- FINISH. It flushes the last line and returns the parity of the frame and the number of its held pels.
abbrev pub finish_test : Frame → Signal → Verdict
finish_test f s =
    result_and (reach_test f.raster s) (refuse_if (nat_lt f.done (block_lines f.raster)) (BlockLineCount f.done))

-- a plane's bit is 1 exactly when it holds an even number of ones
abbrev pub parity_of : Tally → ℕ
parity_of t = bit_xor 255 t.planes

-- an accepted finish: the end that is left, the parity and the number of held pels
pub record Finished : Type 0 where
  pub end : Idle
  pub parity : ℕ
  pub held : ℕ

abbrev pub finish_on : Frame → Signal → Verdict → Result Finished (Refused Frame) × Signal
finish_on f s (Err why) = (Err (refused f why), s)
finish_on f s (Ok _) =
    let c = flushed f (course s f.tally) in
    let p = parity_of c.tally in
    (Ok (record { end = record { raster = f.raster; parity = p }; parity = p; held = c.tally.held }), c.signal)

abbrev pub finish : Frame → Signal → Result Finished (Refused Frame) × Signal
finish f s = finish_on f s (finish_test f s)

abbrev pub finish_as : {E : Type 0} → Result (FinishedEnd E) (Refused (OpenEnd E)) → Result Finished (Refused Frame)
finish_as (Ok e) = Ok (record { end = idle_of e.end; parity = e.parity; held = e.held })
finish_as (Err e) = Err (refused (frame_of e.end) e.refusal)
