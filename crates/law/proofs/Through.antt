-- Frames as functions of the memories: what both ends' memories hold after the frames that they finished.
use Rattle.std.proofs.Common.{◌≡◌, ℕ, ◌*◌, ◌<◌, ◌≤◌, List, [], ◌∷◌, length, get_or, ℤ, Ok}
use Rattle.format.specs.Header.{header_of, read_header}
use Rattle.format.specs.Raster.{width, picture_reach, line_reach, mark_reach}
use Rattle.format.specs.Reader.{verdict}
use Rattle.format.specs.declared.header.Header.{Header}
use Rattle.format.specs.declared.raster.Raster.{Raster}
use Rattle.quantizer.specs.declared.characteristic.Characteristic.{Characteristic}
use Rattle.codec.specs.Decoder.{Frame, begun, block_lines, flushed, next_course, onward, parity_of, top_in}
use Rattle.codec.specs.Line.{resets}
use Rattle.codec.specs.Signal.{Signal, pel_at, marks_at}
use Rattle.codec.specs.Step.{Course, course}
use Rattle.law.specs.Runs.{Sent}

-- each memory reaches as far as the raster asks
pub record Reach (r : Raster) (s : Signal) : Type 0 where
  pub picture : picture_reach r ≤ length s.picture
  pub background : picture_reach r ≤ length s.background
  pub line : line_reach r ≤ length s.line
  pub marks : mark_reach r ≤ length s.marks

-- the newest a pels of picture and background agree, as far as they need reach, and the line and mark
-- memories agree wherever they need reach
pub record Agree (r : Raster) (a : ℕ) (s t : Signal) : Type 0 where
  pub picture : (n : ℕ) → n ≤ a → n ≤ picture_reach r → pel_at s.picture n ≡ pel_at t.picture n
  pub background : (n : ℕ) → n ≤ a → n ≤ picture_reach r → pel_at s.background n ≡ pel_at t.background n
  pub line : (n : ℕ) → n ≤ line_reach r → pel_at s.line n ≡ pel_at t.line n
  pub marks : (n : ℕ) → n ≤ mark_reach r → marks_at s.marks n ≡ marks_at t.marks n

-- a frame in hand with its memories
pub record Hand : Type 0 where
  pub frame : Frame
  pub signal : Signal

abbrev pub in_hand : Frame → Signal → Hand
in_hand f s = record { frame = f; signal = s }

abbrev pub header_in : List ℕ → Header
header_in bytes = header_of (get_or bytes 0 0) (get_or bytes 1 0) (get_or bytes 2 0) (get_or bytes 3 0) (get_or bytes 4 0)

module _ (tops : Characteristic → ℕ) (values : Characteristic → ℤ → ℤ) where
  -- one block-line more
  unfoldable pub onward_by : List ℕ → Hand → Hand
  onward_by bytes b = let c = next_course tops values b.frame bytes b.signal in in_hand (onward tops values b.frame bytes c.tally) c.signal

  -- block-lines, the newest record first
  abbrev pub hand : List (List ℕ) → Hand → Hand
  hand [] b = b
  hand (bytes ∷ older) b = onward_by bytes (hand older b)

  module _ (r : Raster) where
    abbrev pub beginning : Sent → Signal → Hand
    beginning sent s = in_hand (begun r (header_in sent.header)) (resets (7 * width r) s)

    -- a frame from its opening up to its last block-line
    unfoldable pub worked : Sent → Signal → Hand
    worked sent s = hand sent.records (beginning sent s)

    -- and with its finish
    unfoldable pub ended : Sent → Signal → Course
    ended sent s = let b = worked sent s in flushed b.frame (course b.signal b.frame.tally)

    -- frames, the newest first
    abbrev pub through : List Sent → Signal → Signal
    through [] s = s
    through (sent ∷ older) s = (ended sent (through older s)).signal

    -- the parity of the newest frame, of a new end without one
    abbrev pub parity_after : List Sent → Signal → ℕ
    parity_after [] s = 255
    parity_after (sent ∷ older) s = parity_of (ended sent (through older s)).tally

    -- a frame whose header and records a decoder takes
    pub record Usable (sent : Sent) : Type 0 where
      pub reads : read_header sent.header ≡ Ok (header_in sent.header)
      pub full : length sent.records ≡ block_lines r
      pub each : (i : ℕ) → i < length sent.records
          → verdict r (header_in sent.header).sbc (top_in tops (get_or sent.records i [])) (get_or sent.records i []) ≡ Ok tt
