-- The coder: what each of its calls answers and writes, and what the memories hold next. Its memories move
-- as a decoder's do that is given what the coder writes.
use Rattle.std.specs.Prelude.{ℕ, zero, suc, ◌+◌, ◌-◌, ◌*◌, Bool, List, [], ◌∷◌, ◌++◌, length, ℤ, Ok, Err, Result, nat_le}
use Rattle.std.specs.Result.{result_and}
use Rattle.std.specs.List.{between}
use Rattle.format.specs.Front.{front_length, front_written}
use Rattle.format.specs.Header.{read_header}
use Rattle.format.specs.Raster.{width, record_length}
use Rattle.format.specs.Record.{head_in}
use Rattle.format.specs.RecordWriting.{count_test}
use Rattle.format.specs.Usable.{Verdict, refuse_if, front_usable}
use Rattle.format.specs.declared.header.Header.{Header}
use Rattle.format.specs.declared.raster.Raster.{Raster}
use Rattle.format.specs.declared.refusal.Refusal.{Refusal}
use Rattle.format.specs.declared.refusal.Refusal.TheVariants.{BlockLineCount}
use Rattle.quantizer.specs.Choice.{chosen}
use Rattle.quantizer.specs.declared.characteristic.Characteristic.{Characteristic}
use Rattle.codec.specs.Block.{geometry_of, control_of, line_modes, blocks_of, record_value}
use Rattle.codec.specs.Coding.{Coded, coded, code_line}
use Rattle.codec.specs.Decoder.{Idle, idle_of, Frame, frame_of, Finished, reach_test, refused, begun, block_lines, above_next, between_fields, next_course, onward, finish}
use Rattle.codec.specs.Line.{resets}
use Rattle.codec.specs.Signal.{Signal}
use Rattle.codec.specs.Step.{Course, course}
use Rattle.codec.specs.declared.coder.Coder.{Coder as CoderEnd}
use Rattle.codec.specs.declared.end.Idle.{Idle as IdleEnd}
use Rattle.codec.specs.declared.end.Open.{Open as OpenEnd}
use Rattle.codec.specs.declared.end.Refused.{Refused}
use Rattle.codec.specs.declared.modes.Above.{Above}

-- OPENING. The header begins with the parity of the frame before, and goes on with FM1, BC, FM2 and FC.
abbrev pub header_written : Idle → ℕ → ℕ → ℕ → ℕ → List ℕ
header_written e fm1 bc fm2 fc = e.parity ∷ fm1 ∷ bc ∷ fm2 ∷ fc ∷ []

abbrev pub header_length : ℕ
header_length = 5

-- an accepted opening writes the header and brings 7 reset lines into all memories; a refused one leaves
-- the end, the buffer and the memories as they were
abbrev pub opened_coding_on : Idle → List ℕ → List ℕ → Signal → Result Header Refusal → Result Frame (Refused Idle) × List ℕ × Signal
opened_coding_on e written buffer s (Err why) = (Err (refused e why), buffer, s)
opened_coding_on e written buffer s (Ok h) = (Ok (begun e.raster h), written, resets (7 * width e.raster) s)

abbrev pub opening_coded : Idle → ℕ → ℕ → ℕ → ℕ → List ℕ → Signal → Result Frame (Refused Idle) × List ℕ × Signal
opening_coded e fm1 bc fm2 fc buffer s =
    let written = header_written e fm1 bc fm2 fc in
    opened_coding_on e written buffer s
    (result_and (reach_test e.raster s) (result_and (count_test header_length (length buffer)) (read_header written)))

-- what an opening answered, with the states as their numbers
abbrev pub opened_coding_as : Result (OpenEnd CoderEnd) (Refused (IdleEnd CoderEnd)) → Result Frame (Refused Idle)
opened_coding_as (Ok e) = Ok (frame_of e)
opened_coding_as (Err e) = Err (refused (idle_of e.end) e.refusal)

-- BLOCK-LINE. The picture has the pels of the eight lines, line after line.
abbrev pub picture_length : Raster → ℕ
picture_length r = 8 * width r

abbrev pub picture_line : Raster → List ℤ → ℕ → List ℤ
picture_line r picture line = between ((line - 1) * width r) (line * width r) picture

-- reaches, the count of block-lines, lengths (head and words, picture, buffer), then head and words
abbrev pub coding_test : Frame → List ℕ → List ℤ → List ℕ → Signal → Verdict
coding_test f front picture buffer s =
    result_and (reach_test f.raster s)
    (result_and (refuse_if (nat_le (block_lines f.raster) f.done) (BlockLineCount f.done))
    (result_and (count_test (front_length f.raster) (length front))
    (result_and (count_test (picture_length f.raster) (length picture))
    (result_and (count_test (record_length f.raster) (length buffer))
    (front_usable f.raster f.header.sbc front)))))

module _ (tops : Characteristic → ℕ) (values numbers : Characteristic → ℤ → ℤ) where
  -- so many lines of a block-line from a line on, under the head and words that are written: the levels found,
  -- line after line, and the course after them
  unfoldable pub code_lines : Raster → Header → Bool → Above → List ℕ → Bool → List ℤ → ℕ → ℕ → Course → Coded
  code_lines r h second above front stop picture line zero c = coded [] c
  code_lines r h second above front stop picture line (suc count) c =
      let g = geometry_of r in
      let head = head_in front in
      let here =
      code_line (numbers (chosen head.qc1 head.qc2)) stop g (control_of h) (line_modes h head second above line) (blocks_of g r h.sbc front)
      (record_value tops values front) (picture_line r picture line) c in
      let rest = code_lines r h second above front stop picture (line + 1) count here.after in
      coded (here.levels ++ rest.levels) rest.after

  -- the eight lines of the next block-line of a frame in hand
  abbrev pub coded_lines : Frame → List ℕ → Bool → List ℤ → Signal → Coded
  coded_lines f front stop picture s =
      code_lines f.raster f.header (nat_le f.raster.block_lines f.done) (above_next f) (front_written f.raster stop front) stop picture 1 8
      (between_fields f (course s f.tally))

  -- the record that is written: head and words, under Stop with every vector 0, and the levels
  unfoldable pub record_written : Frame → List ℕ → Bool → List ℤ → Signal → List ℕ
  record_written f front stop picture s = front_written f.raster stop front ++ (coded_lines f front stop picture s).levels

  -- an accepted block-line writes its record and moves the memories as a decoder's given that record; a
  -- refused one leaves the frame in hand, the buffer and the memories as they were
  abbrev pub block_line_coded_on : Frame → List ℕ → Bool → List ℤ → List ℕ → Signal → Verdict → Result Frame (Refused Frame) × List ℕ × Signal
  block_line_coded_on f front stop picture buffer s (Err why) = (Err (refused f why), buffer, s)
  block_line_coded_on f front stop picture buffer s (Ok _) =
      let bytes = record_written f front stop picture s in
      let c = next_course tops values f bytes s in
      (Ok (onward tops values f bytes c.tally), bytes, c.signal)

  abbrev pub block_line_coded : Frame → List ℕ → Bool → List ℤ → List ℕ → Signal → Result Frame (Refused Frame) × List ℕ × Signal
  block_line_coded f front stop picture buffer s = block_line_coded_on f front stop picture buffer s (coding_test f front picture buffer s)

-- FINISH. As at a decoder; it answers the end and the parity of the frame.
abbrev pub with_parity : Result Finished (Refused Frame) → Result (Idle × ℕ) (Refused Frame)
with_parity (Ok e) = Ok (e.end, e.parity)
with_parity (Err e) = Err e

abbrev pub finish_coded : Frame → Signal → Result (Idle × ℕ) (Refused Frame) × Signal
finish_coded f s = let e = finish f s in (with_parity e.0, e.1)
