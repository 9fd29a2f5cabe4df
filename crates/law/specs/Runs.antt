-- Runs of a coder and of a decoder: any calls that the end allows, one after another, refused ones among
-- them, each with the outcome that its contract defines.
use Rattle.std.specs.Prelude.{◌≡◌, ℕ, ◌+◌, ◌*◌, Bool, List, [], ◌∷◌, ◌++◌, take, drop, ℤ, Ok, Err}
use Rattle.format.specs.Raster.{width}
use Rattle.format.specs.declared.raster.Raster.{Raster}
use Rattle.quantizer.specs.declared.characteristic.Characteristic.{Characteristic}
use Rattle.codec.specs.Coder.{opening_coded, block_line_coded, finish_coded}
use Rattle.codec.specs.Decoder.{Idle, Frame, Finished, new_end, opening, block_line, finish}
use Rattle.codec.specs.Signal.{Signal}
use Rattle.codec.specs.declared.end.Refused.{Refused}

-- a frame as it goes from one end to the other: its header, and its records, the newest first
pub record Sent : Type 0 where
  pub header : List ℕ
  pub records : List (List ℕ)

abbrev pub begun_with : List ℕ → Sent
begun_with header = record { header = header; records = [] }

abbrev pub with_record : List ℕ → Sent → Sent
with_record bytes sent = record { header = sent.header; records = bytes ∷ sent.records }

-- the lines of a field, all its block-lines
abbrev pub field_pels : Raster → ℕ
field_pels r = 8 * r.block_lines * width r

-- the counted pels of the frame that an end has just finished: the block-lines of both fields, of which
-- the second came last; 6 reset lines stand between them
abbrev pub counted_pels : Raster → List ℤ → List ℤ
counted_pels r picture = take (field_pels r) picture ++ take (field_pels r) (drop (field_pels r + 6 * width r) picture)

-- a frame that a coder has finished: what it wrote, the parity that its finish told, and the counted pels
pub record Written : Type 0 where
  pub sent : Sent
  pub parity : ℕ
  pub pels : List ℤ

-- a frame that a decoder has finished: what it took, the planes that its opening named, the parity and the
-- held pels that its finish told, and the counted pels
pub record Taken : Type 0 where
  pub sent : Sent
  pub planes : ℕ
  pub parity : ℕ
  pub held : ℕ
  pub pels : List ℤ

-- an end between two calls, with what its memories hold: with no frame in hand, or with a frame in hand and
-- what is known of it so far
pub data Standing (X : Type 0) : Type 0 where
  Resting : Idle → Signal → Standing X
  Working : Frame → Signal → X → Standing X

module _ (tops : Characteristic → ℕ) (values numbers : Characteristic → ℤ → ℤ) (r : Raster) (start : Signal) where
  -- a coder: the frames that it has finished, the newest first, and where it stands
  pub data CoderRun : List Written → Standing Sent → Type 0 where
    new : CoderRun [] (Resting (new_end r) start)
    opened : {frames : List Written} {e : Idle} {s s' : Signal} {f : Frame} {header : List ℕ} (fm1 bc fm2 fc : ℕ) (buffer : List ℕ)
        → CoderRun frames (Resting e s)
        → opening_coded e fm1 bc fm2 fc buffer s ≡ (Ok f, header, s')
        → CoderRun frames (Working f s' (begun_with header))
    opening_refused : {frames : List Written} {e : Idle} {s s' : Signal} {refusal : Refused Idle} {left : List ℕ} (fm1 bc fm2 fc : ℕ) (buffer : List ℕ)
        → CoderRun frames (Resting e s)
        → opening_coded e fm1 bc fm2 fc buffer s ≡ (Err refusal, left, s')
        → CoderRun frames (Resting refusal.end s')
    coded : {frames : List Written} {f f' : Frame} {s s' : Signal} {sent : Sent} {bytes : List ℕ}
        (front : List ℕ) (stop : Bool) (picture : List ℤ) (buffer : List ℕ)
        → CoderRun frames (Working f s sent)
        → block_line_coded tops values numbers f front stop picture buffer s ≡ (Ok f', bytes, s')
        → CoderRun frames (Working f' s' (with_record bytes sent))
    block_line_refused : {frames : List Written} {f : Frame} {s s' : Signal} {sent : Sent} {refusal : Refused Frame} {left : List ℕ}
        (front : List ℕ) (stop : Bool) (picture : List ℤ) (buffer : List ℕ)
        → CoderRun frames (Working f s sent)
        → block_line_coded tops values numbers f front stop picture buffer s ≡ (Err refusal, left, s')
        → CoderRun frames (Working refusal.end s' sent)
    finished : {frames : List Written} {f : Frame} {s s' : Signal} {sent : Sent} {e : Idle} {parity : ℕ}
        → CoderRun frames (Working f s sent)
        → finish_coded f s ≡ (Ok (e, parity), s')
        → CoderRun (record { sent = sent; parity = parity; pels = counted_pels r s'.picture } ∷ frames) (Resting e s')
    finish_refused : {frames : List Written} {f : Frame} {s s' : Signal} {sent : Sent} {refusal : Refused Frame}
        → CoderRun frames (Working f s sent)
        → finish_coded f s ≡ (Err refusal, s')
        → CoderRun frames (Working refusal.end s' sent)

-- the planes that the opening of the frame in hand named stand beside what was taken of it
module _ (tops : Characteristic → ℕ) (values : Characteristic → ℤ → ℤ) (r : Raster) (start : Signal) where
  -- a decoder: the frames that it has finished, the newest first, and where it stands
  pub data DecoderRun : List Taken → Standing (Sent × ℕ) → Type 0 where
    new : DecoderRun [] (Resting (new_end r) start)
    opened : {frames : List Taken} {e : Idle} {s s' : Signal} {f : Frame} {planes : ℕ} (header : List ℕ)
        → DecoderRun frames (Resting e s)
        → opening e header s ≡ (Ok (f, planes), s')
        → DecoderRun frames (Working f s' (begun_with header, planes))
    opening_refused : {frames : List Taken} {e : Idle} {s s' : Signal} {refusal : Refused Idle} (header : List ℕ)
        → DecoderRun frames (Resting e s)
        → opening e header s ≡ (Err refusal, s')
        → DecoderRun frames (Resting refusal.end s')
    decoded : {frames : List Taken} {f f' : Frame} {s s' : Signal} {sent : Sent} {planes : ℕ} (bytes : List ℕ)
        → DecoderRun frames (Working f s (sent, planes))
        → block_line tops values f bytes s ≡ (Ok f', s')
        → DecoderRun frames (Working f' s' (with_record bytes sent, planes))
    block_line_refused : {frames : List Taken} {f : Frame} {s s' : Signal} {sent : Sent} {planes : ℕ} {refusal : Refused Frame} (bytes : List ℕ)
        → DecoderRun frames (Working f s (sent, planes))
        → block_line tops values f bytes s ≡ (Err refusal, s')
        → DecoderRun frames (Working refusal.end s' (sent, planes))
    finished : {frames : List Taken} {f : Frame} {s s' : Signal} {sent : Sent} {planes : ℕ} {done : Finished}
        → DecoderRun frames (Working f s (sent, planes))
        → finish f s ≡ (Ok done, s')
        → DecoderRun (record { sent = sent; planes = planes; parity = done.parity; held = done.held; pels = counted_pels r s'.picture } ∷ frames) (Resting done.end s')
    finish_refused : {frames : List Taken} {f : Frame} {s s' : Signal} {sent : Sent} {planes : ℕ} {refusal : Refused Frame}
        → DecoderRun frames (Working f s (sent, planes))
        → finish f s ≡ (Err refusal, s')
        → DecoderRun frames (Working refusal.end s' (sent, planes))
