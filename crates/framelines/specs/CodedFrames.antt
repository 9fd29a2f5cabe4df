-- A frame coded from bytes: its modes, then what is given for each block-line, then the finish. What goes out
-- is the header and the records of the block-lines.
use Rattle.std.specs.Prelude.{ℕ, zero, suc, ◌+◌, ◌*◌, Bool, not, List, ◌++◌, map, length, take, drop, ℤ, Ok, Err, Result, ◌==◌, slice_index}
use Rattle.std.specs.List.{between}
use Rattle.format.specs.Bits.{level_of}
use Rattle.format.specs.Front.{front_length}
use Rattle.format.specs.Raster.{record_length}
use Rattle.format.specs.RecordWriting.{count_test}
use Rattle.format.specs.Usable.{Verdict}
use Rattle.format.specs.declared.raster.Raster.{Raster}
use Rattle.format.specs.declared.refusal.Refusal.{Refusal}
use Rattle.quantizer.specs.declared.characteristic.Characteristic.{Characteristic}
use Rattle.codec.specs.Coder.{picture_length, opening_coded, block_line_coded}
use Rattle.codec.specs.Decoder.{Idle, idle_of, Frame, Finished, block_lines, finish}
use Rattle.codec.specs.Signal.{Signal}
use Rattle.codec.specs.declared.end.Finished.{Finished as FinishedEnd}
use Rattle.codec.specs.declared.end.Refused.{Refused}
use Rattle.framelines.specs.Frames.{header_bytes, frame_bytes, piece}

-- FM1, BC, FM2 and FC
abbrev pub mode_bytes : ℕ
mode_bytes = 4

-- the bytes given for a block-line: Stop, head and words, and a byte for each pel of the eight lines
abbrev pub input_length : Raster → ℕ
input_length r = 1 + front_length r + picture_length r

-- the bytes given for a whole frame
abbrev pub input_bytes : Raster → ℕ
input_bytes r = mode_bytes + block_lines r * input_length r

-- Stop is meant by every byte but 0
abbrev pub stop_in : List ℕ → Bool
stop_in bytes = not (slice_index bytes 0 == 0)

abbrev pub front_in : Raster → List ℕ → List ℕ
front_in r bytes = between 1 (1 + front_length r) bytes

-- the pels, in two's complement
abbrev pub pels_in : Raster → List ℕ → List ℤ
pels_in r bytes = map level_of (drop (1 + front_length r) bytes)

-- what a part of the coding answers, what the outgoing bytes hold then, and what the memories hold
abbrev pub Answer : Type 0 → Type 0
Answer A = Result A Refusal × List ℕ × Signal

-- of a refused call the refusal
abbrev pub answered : {A E : Type 0} → Result A (Refused E) × List ℕ × Signal → Answer A
answered (Ok a, out, s) = (Ok a, out, s)
answered (Err e, out, s) = (Err e.refusal, out, s)

-- a wrong count is refused before anything is done
abbrev pub counted : {A : Type 0} → Answer A → List ℕ → Signal → Verdict → Answer A
counted answer out s (Ok _) = answer
counted answer out s (Err why) = (Err why, out, s)

-- a part of the outgoing bytes, from a place to another, holds what was written there; the others stay
abbrev pub within : {A : Type 0} → ℕ → ℕ → List ℕ → Answer A → Answer A
within from to out (answer, written, s) = (answer, take from out ++ (written ++ drop to out), s)

-- the first refusal ends a frame
abbrev pub followed : {A B : Type 0} → (A → List ℕ → Signal → Answer B) → Answer A → Answer B
followed next (Ok a, out, s) = next a out s
followed next (Err why, out, s) = (Err why, out, s)

-- the opening, from the modes of a frame
abbrev pub opening_from : Idle → List ℕ → List ℕ → Signal → Answer Frame
opening_from e modes buffer s =
    counted (answered (opening_coded e (slice_index modes 0) (slice_index modes 1) (slice_index modes 2) (slice_index modes 3) buffer s)) buffer s
    (count_test mode_bytes (length modes))

-- the finish, as a part that writes nothing
abbrev pub finishing : Frame → List ℕ → Signal → Answer Finished
finishing f out s = let e = finish f s in answered (e.0, out, e.1)

module _ (tops : Characteristic → ℕ) (values numbers : Characteristic → ℤ → ℤ) where
  -- a block-line, from what is given for it
  unfoldable pub block_line_from : Raster → Frame → List ℕ → List ℕ → Signal → Answer Frame
  block_line_from r f bytes buffer s =
      counted (answered (block_line_coded tops values numbers f (front_in r bytes) (stop_in bytes) (pels_in r bytes) buffer s)) buffer s
      (count_test (input_length r) (length bytes))

  module _ (r : Raster) (bytes : List ℕ) where
    -- so many block-lines, from what is given from a place on; their records go out one after another from a
    -- place on
    unfoldable pub records_coded : ℕ → ℕ → ℕ → Frame → List ℕ → Signal → Answer Frame
    records_coded from to zero f out s = (Ok f, out, s)
    records_coded from to (suc count) f out s =
        followed (records_coded (from + input_length r) (to + record_length r) count)
        (within to (to + record_length r) out
        (block_line_from r f (piece bytes from (input_length r)) (between to (to + record_length r) out) s))

  -- one frame: the first refusal ends it, and what was written before it stands in the outgoing bytes
  abbrev pub code_frame : List ℕ → Idle → List ℕ → Signal → Answer Finished
  code_frame bytes e out s =
      counted
      (followed finishing
      (followed (records_coded e.raster bytes mode_bytes header_bytes (block_lines e.raster))
      (within 0 header_bytes out (opening_from e (piece bytes 0 mode_bytes) (between 0 header_bytes out) s)))) out s
      (count_test (frame_bytes e.raster) (length out))

-- what a frame answered, with the state as its numbers
abbrev pub frame_coded_as : {E : Type 0} → Result (FinishedEnd E) Refusal → Result Finished Refusal
frame_coded_as (Ok d) = Ok (record { end = idle_of d.end; parity = d.parity; held = d.held })
frame_coded_as (Err why) = Err why
