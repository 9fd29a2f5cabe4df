-- A frame as one course: what is known of the frame in hand from its records alone, and the course through them.
use Rattle.std.proofs.Common.{◌≡◌, ℕ, ◌*◌, Bool, false, List, [], ◌∷◌, length, ℤ, refl, ap, ◌∙◌, add-one}
use Rattle.format.specs.Raster.{width}
use Rattle.format.specs.Record.{head_in}
use Rattle.format.specs.declared.header.Header.{Header}
use Rattle.format.specs.declared.raster.Raster.{Raster}
use Rattle.quantizer.specs.declared.characteristic.Characteristic.{Characteristic}
use Rattle.codec.specs.Block.{line_is_forced}
use Rattle.codec.specs.Decoder.{Frame, begun, flushed, next_course}
use Rattle.codec.specs.Line.{resets}
use Rattle.codec.specs.Signal.{Signal}
use Rattle.codec.specs.Step.{Course, course}
use Rattle.codec.specs.declared.modes.Tally.{Tally}
use Rattle.law.specs.Runs.{Sent}
use Rattle.law.proofs.Through.{Hand, in_hand, header_in, onward_by, hand, worked, ended}

-- whether the pending line after these records is forced
abbrev pub forced_after : Header → List (List ℕ) → Bool
forced_after h [] = false
forced_after h (bytes ∷ older) = line_is_forced h (head_in bytes) 8

-- the frame in hand after these records
abbrev pub frame_after : Raster → Header → List (List ℕ) → Tally → Frame
frame_after r h records t = record { raster = r; header = h; done = length records; forced = forced_after h records; tally = t }

-- nothing counted
abbrev pub no_tally : Tally
no_tally = record { planes = 0; held = 0 }

module _ (tops : Characteristic → ℕ) (values : Characteristic → ℤ → ℤ) (r : Raster) where
  -- the course after these records, the newest first
  abbrev pub course_after : Header → List (List ℕ) → Course → Course
  course_after h [] c = c
  course_after h (bytes ∷ older) c =
      let d = course_after h older c in
      next_course tops values (frame_after r h older d.tally) bytes d.signal

  -- the frame in hand and its memories are those of the course
  pub hand_is : (h : Header) (records : List (List ℕ)) (s : Signal)
      → hand tops values records (in_hand (begun r h) s)
      ≡ in_hand (frame_after r h records (course_after h records (course s no_tally)).tally) (course_after h records (course s no_tally)).signal
  unfolding onward_by
  hand_is h [] s = refl
  hand_is h (bytes ∷ older) s =
      let c = course_after h (bytes ∷ older) (course s no_tally) in
      ap (onward_by tops values bytes) (hand_is h older s)
      ∙ ap (λ n. in_hand (record { raster = r; header = h; done = n; forced = line_is_forced h (head_in bytes) 8; tally = c.tally }) c.signal) (add-one (length older))

  -- a frame up to its finish
  pub ended_is : (sent : Sent) (s : Signal)
      → let h = header_in sent.header in
      let c = course_after h sent.records (course (resets (7 * width r) s) no_tally) in
      ended tops values r sent s ≡ flushed (frame_after r h sent.records c.tally) c
  unfolding worked ended
  ended_is sent s =
      ap (λ (b : Hand). flushed b.frame (course b.signal b.frame.tally)) (hand_is (header_in sent.header) sent.records (resets (7 * width r) s))
