-- A frame out of bytes: a header, then a record for each block-line, then the finish.
use Rattle.std.specs.Prelude.{ℕ, zero, suc, ◌+◌, ◌*◌, List, take, drop, ℤ, Some, None, Option, Ok, Err, Result}
use Rattle.std.specs.Option.{option_map}
use Rattle.format.specs.Raster.{record_length}
use Rattle.format.specs.declared.raster.Raster.{Raster}
use Rattle.format.specs.declared.refusal.Refusal.{Refusal}
use Rattle.quantizer.specs.declared.characteristic.Characteristic.{Characteristic}
use Rattle.codec.specs.Decoder.{Idle, idle_of, Frame, frame_of, Finished, opening, block_line, block_lines, finish}
use Rattle.codec.specs.Signal.{Signal}
use Rattle.codec.specs.declared.end.Open.{Open}
use Rattle.codec.specs.declared.end.Refused.{Refused}
use Rattle.framelines.specs.declared.entry.Entry.{Entry}
use Rattle.framelines.specs.declared.entry.Entry.TheVariants as entry
use Rattle.framelines.specs.declared.entry.Logged.{Logged}
use Rattle.framelines.specs.declared.frames.Decoded.{Decoded as DecodedEnd}

abbrev pub header_bytes : ℕ
header_bytes = 5

-- the bytes of a whole frame
abbrev pub frame_bytes : Raster → ℕ
frame_bytes r = header_bytes + block_lines r * record_length r

-- a piece of the bytes, cut short where they stop inside it
abbrev pub piece : List ℕ → ℕ → ℕ → List ℕ
piece bytes start length = take length (drop start bytes)

-- what the records answered, with the frame in hand as its numbers
abbrev pub records_as : {E : Type 0} → Result (Open E) Refusal → Result Frame Refusal
records_as (Ok e) = Ok (frame_of e)
records_as (Err why) = Err why

-- a record that is taken is followed by the next
abbrev pub goes_on : (Frame → Signal → Result Frame Refusal × Signal) → Result Frame (Refused Frame) × Signal → Result Frame Refusal × Signal
goes_on next (Ok f, s) = next f s
goes_on next (Err e, s) = (Err e.refusal, s)

-- a decoded frame: the end that is left, its parity, the planes that its opening named and the number of its
-- held pels
pub record Decoded : Type 0 where
  pub end : Idle
  pub parity : ℕ
  pub planes : ℕ
  pub held : ℕ

module _ (tops : Characteristic → ℕ) (values : Characteristic → ℤ → ℤ) (bytes : List ℕ) where
  -- records one after another; the first refusal ends them
  unfoldable pub records : ℕ → ℕ → ℕ → Frame → Signal → Result Frame Refusal × Signal
  records length start zero f s = (Ok f, s)
  records length start (suc count) f s = goes_on (records length (start + length) count) (block_line tops values f (piece bytes start length) s)

  abbrev pub finished_frame : ℕ → Result Finished (Refused Frame) × Signal → Result Decoded Refusal × Signal
  finished_frame planes (Ok d, s) = (Ok (record { end = d.end; parity = d.parity; planes = planes; held = d.held }), s)
  finished_frame planes (Err e, s) = (Err e.refusal, s)

  abbrev pub after_records : ℕ → Result Frame Refusal × Signal → Result Decoded Refusal × Signal
  after_records planes (Ok f, s) = finished_frame planes (finish f s)
  after_records planes (Err why, s) = (Err why, s)

  abbrev pub after_opening : Raster → Result (Frame × ℕ) (Refused Idle) × Signal → Result Decoded Refusal × Signal
  after_opening r (Ok (f, planes), s) = after_records planes (records (record_length r) header_bytes (block_lines r) f s)
  after_opening r (Err e, s) = (Err e.refusal, s)

  -- one frame: the first refusal of its calls ends it
  abbrev pub decode_frame : Idle → Signal → Result Decoded Refusal × Signal
  decode_frame e s = after_opening e.raster (opening e (piece bytes 0 header_bytes) s)

-- what a frame answered, with the state as its numbers
abbrev pub decoded_as : Result DecodedEnd Refusal → Result Decoded Refusal
decoded_as (Ok d) = Ok (record { end = idle_of d.end; parity = d.parity; planes = d.planes; held = d.held })
decoded_as (Err why) = Err why

-- the end that is left, and the line of frame `number`
abbrev pub logged : ℕ → Result Decoded Refusal × Signal → (Option Idle × Entry) × Signal
logged number (Ok d, s) = ((Some d.end, entry.Frame number d.parity d.planes d.held), s)
logged number (Err why, s) = ((None, entry.Refused why), s)

-- what was logged, with the state as its numbers
abbrev pub logged_as : Logged → Option Idle × Entry
logged_as l = (option_map idle_of l.end, l.entry)
