-- The law over whole runs of a coder and a decoder: what they hold, name and count when one decodes what
-- the other wrote.
use Rattle.std.specs.Prelude.{◌≡◌, ℕ, ◌+◌, ◌-◌, ◌*◌, ◌%◌, ◌<◌, ◌≤◌, Bool, true, false, not, ◌⊎◌, List, [], ◌∷◌, ◌++◌, map, length, take, replicate, ℤ, pos, negsuc, ◌≤ℤ◌, Ok, ◌==◌, nat_le, slice_index, slice_index_or}
use Rattle.format.specs.Bits.{bit_at, digit}
use Rattle.format.specs.Header.{read_header}
use Rattle.format.specs.Raster.{width, frame}
use Rattle.format.specs.Record.{head_in, word_in, line_in, has_line}
use Rattle.format.specs.Sound.{has_level}
use Rattle.format.specs.declared.header.Header.{Header}
use Rattle.format.specs.declared.raster.Raster.{Raster}
use Rattle.prediction.specs.Rules.{byte, distance}
use Rattle.quantizer.specs.Choice.{chosen}
use Rattle.quantizer.specs.Lawful.{Lawful, near_limit}
use Rattle.quantizer.specs.declared.characteristic.Characteristic.{Characteristic}
use Rattle.codec.specs.Block.{geometry_of, control_of, blocks_of, line_modes, lines_from, record_value}
use Rattle.codec.specs.Coder.{block_line_coded}
use Rattle.codec.specs.Coding.{prepared, prediction_as, is_coded}
use Rattle.codec.specs.Decoder.{Frame, reach_test, above_next, between_fields, block_line, Idle}
use Rattle.codec.specs.Line.{block_at, pels, clamped_pels}
use Rattle.codec.specs.Modes.{pel_mode}
use Rattle.codec.specs.Signal.{Signal, pel_at, no_marks}
use Rattle.codec.specs.Step.{course, worked}
use Rattle.codec.specs.declared.modes.BlockModes.{BlockModes}
use Rattle.codec.specs.declared.modes.LineModes.{LineModes}
use Rattle.codec.specs.declared.modes.PelMode.{PelMode}
use Rattle.law.specs.Runs.{Sent, begun_with, Written, Taken, Resting, Working, CoderRun, DecoderRun}

-- CLEARED: every element is 0
pub record Cleared (s : Signal) : Type 0 where
  pub picture : s.picture ≡ replicate (length s.picture) (pos 0)
  pub background : s.background ≡ replicate (length s.background) (pos 0)
  pub line : s.line ≡ replicate (length s.line) (pos 0)
  pub marks : s.marks ≡ replicate (length s.marks) no_marks

-- MATCHING. From frame j on, counted from 1 at the coder, the decoder took just what the coder wrote: the
-- coder wrote j − 1 frames, and after them those that the decoder took, at least one. Frames stand newest first.
pub record Matches (j : ℕ) (written : List Written) (taken : List Taken) : Type 0 where
  pub earlier : List Sent
  pub earlier_ones : length earlier + 1 ≡ j
  pub same : map (λ w. w.sent) written ≡ map (λ t. t.sent) taken ++ earlier
  pub one_at_least : 1 ≤ length taken

-- both hold the same picture and background, the newest frame of pels
pub record SameHeld (r : Raster) (s t : Signal) : Type 0 where
  pub picture : take (frame r) s.picture ≡ take (frame r) t.picture
  pub background : take (frame r) s.background ≡ take (frame r) t.background

-- PLANES. Two pels differ in a plane where its bit is 1 in one alone; plane 7 is the most significant.
abbrev pub unlike : Bool → Bool → Bool
unlike true b = not b
unlike false b = b

abbrev pub differs_in : ℕ → ℤ → ℤ → Bool
differs_in plane y z = unlike (bit_at plane (byte y)) (bit_at plane (byte z))

-- at how many places two lists of pels differ in a plane
abbrev pub differing : ℕ → List ℤ → List ℤ → ℕ
differing plane [] zs = 0
differing plane (y ∷ ys) [] = 0
differing plane (y ∷ ys) (z ∷ zs) = digit (differs_in plane y z) + differing plane ys zs

-- a byte names exactly the planes in which an odd number of pels differ
abbrev pub Names : ℕ → List ℤ → List ℤ → Type 0
Names planes ys zs = (plane : ℕ) → plane < 8 → bit_at plane planes ≡ (differing plane ys zs % 2 == 1)

-- how many pels of a list have a 1 in a plane
abbrev pub ones_in : ℕ → List ℤ → ℕ
ones_in plane [] = 0
ones_in plane (y ∷ ys) = digit (bit_at plane (byte y)) + ones_in plane ys

-- a parity has a 1 exactly for the planes that hold an even number of ones
abbrev pub IsParity : ℕ → List ℤ → Type 0
IsParity parity ys = (plane : ℕ) → plane < 8 → bit_at plane parity ≡ (ones_in plane ys % 2 == 0)

-- frame i of a list, the newest at 0; the frame before it stands at i + 1
abbrev pub nothing_sent : Sent
nothing_sent = begun_with []

abbrev pub written_at : List Written → ℕ → Written
written_at written i = slice_index_or written i (record { sent = nothing_sent; parity = 0; pels = [] })

abbrev pub taken_at : List Taken → ℕ → Taken
taken_at taken i = slice_index_or taken i (record { sent = nothing_sent; planes = 0; parity = 0; held = 0; pels = [] })

-- REFRESH. A frame is wholly refreshed when DRM is 0 and IFM is 0 in all block-lines.
pub record WhollyRefreshed (sent : Sent) : Type 0 where
  pub header : Header
  pub reads : read_header sent.header ≡ Ok header
  pub all_lines : header.drm ≡ false
  pub all_block_lines : (i : ℕ) → i < length sent.records → (head_in (slice_index_or sent.records i [])).ifm ≡ false

-- the record of block-line 1, the oldest
abbrev pub first_record : Sent → List ℕ
first_record sent = slice_index_or sent.records (length sent.records - 1) []

-- a vector reaches above when it stands in block 2 of block-line 1 with vy = 7 and vx at least 8
abbrev pub ReachesAbove : Raster → Sent → Type 0
ReachesAbove r sent = let word = word_in r (first_record sent) 2 in (word.vy ≡ pos 7) × (pos 8 ≤ℤ word.vx)

-- the last frame is wholly refreshed, or an earlier one is and no vector of the frame next after it reaches above
abbrev pub Refreshes : Raster → List Taken → Type 0
Refreshes r taken =
    WhollyRefreshed (taken_at taken 0).sent
    ⊎ ((i : ℕ) × (i + 1 < length taken) × WhollyRefreshed (taken_at taken (i + 1)).sent × (ReachesAbove r (taken_at taken i).sent → ⊥))

-- RANGE. Each pel lies from low to high.
abbrev pub PelsWithin : ℤ → ℤ → List ℤ → Type 0
PelsWithin low high xs = (n : ℕ) → (low ≤ℤ pel_at xs n) × (pel_at xs n ≤ℤ high)

pub record Within (low high : ℤ) (s : Signal) : Type 0 where
  pub picture : PelsWithin low high s.picture
  pub background : PelsWithin low high s.background
  pub line : PelsWithin low high s.line

-- every memory element is a pel, as a two's complement byte has it
abbrev pub OfPels : Signal → Type 0
OfPels s = Within (negsuc 127) (pos 127) s

-- PELS OF A BLOCK-LINE. What holds at a pel of the block-line that a record brings to the frame in hand.
module _ (tops : Characteristic → ℕ) (values : Characteristic → ℤ → ℤ) (f : Frame) (bytes : List ℕ) (s : Signal) (line pel : ℕ) where
  abbrev pub line_of : LineModes
  line_of = line_modes f.header (head_in bytes) (nat_le f.raster.block_lines f.done) (above_next f) line

  abbrev pub blocks_in : List BlockModes
  blocks_in = blocks_of (geometry_of f.raster) f.raster f.header.sbc bytes

  abbrev pub mode_of : PelMode
  mode_of = pel_mode line_of (block_at blocks_in pel).subsampled pel

  -- what the memories hold when the pel is worked: after the lines before its own, and the pels before it
  abbrev pub memories_at : Signal
  memories_at =
      let r = f.raster in
      let g = geometry_of r in
      let k = control_of f.header in
      let value = record_value tops values bytes in
      let before =
      lines_from r f.header (nat_le r.block_lines f.done) (above_next f) value bytes 1 (line - 1) (between_fields f (course s f.tally)) in
      (pels g k line_of blocks_in value 4 (take (pel - 4) (line_in r bytes line)) (clamped_pels g k line_of before)).signal

  abbrev pub prediction_of : ℤ
  prediction_of = prediction_as mode_of (geometry_of f.raster) line_of (block_at blocks_in pel) pel memories_at

  -- X
  abbrev pub coded_pel_of : ℤ
  coded_pel_of =
      (worked (geometry_of f.raster) line_of (block_at blocks_in pel) pel (record_value tops values bytes (slice_index (line_in f.raster bytes line) (pel - 4))) memories_at).x

-- the prepared pel, of a picture of eight lines
abbrev pub prepared_pel_of : Raster → List ℤ → ℕ → ℕ → ℤ
prepared_pel_of r picture line pel = prepared (geometry_of r) pel (slice_index_or picture ((line - 1) * width r + (pel - 1)) (pos 0))

-- the characteristic that a record chooses
abbrev pub characteristic_in : List ℕ → Characteristic
characteristic_in bytes = chosen (head_in bytes).qc1 (head_in bytes).qc2

module _ (tops shortfalls : Characteristic → ℕ) (values numbers : Characteristic → ℤ → ℤ) where
  -- CLEARED ENDS AGREE. Where all memories began cleared and the decoder matches from the first frame on,
  -- both hold the same, no opening named a plane, and no finish counted a held pel.
  abbrev pub ClearedEndsAgree : Type 0
  ClearedEndsAgree =
      (r : Raster) (sc sd tc td : Signal) (ec ed : Idle) (written : List Written) (taken : List Taken)
      → CoderRun tops values numbers r sc written (Resting ec tc)
      → DecoderRun tops values r sd taken (Resting ed td)
      → Matches 1 written taken → Cleared sc → Cleared sd
      → SameHeld r tc td × ((i : ℕ) → i < length taken → ((taken_at taken i).planes ≡ 0) × ((taken_at taken i).held ≡ 0))

  -- CODED PELS STAY IN RANGE. Every pel in the picture, background and line memories of a coder begun cleared
  -- is from −127 to 126, with a frame in hand or not.
  abbrev pub CodedPelsInRange : Type 0
  CodedPelsInRange =
      (r : Raster) (start : Signal) (written : List Written) → Cleared start
      → ((e : Idle) (s : Signal) → CoderRun tops values numbers r start written (Resting e s) → Within (negsuc 126) (pos 126) s)
      × ((f : Frame) (s : Signal) (sent : Sent) → CoderRun tops values numbers r start written (Working f s sent) → Within (negsuc 126) (pos 126) s)

  -- CODED PELS COME CLOSE. Whatever pels the memories began with, each coded pel outside Stop whose error is
  -- from −130 to 130 lies within the shortfall of its characteristic of the prepared pel.
  abbrev pub CodedPelsClose : Type 0
  CodedPelsClose =
      (r : Raster) (start s s' : Signal) (written : List Written) (f f' : Frame) (sent : Sent) (front bytes buffer : List ℕ) (picture : List ℤ)
      → OfPels start → CoderRun tops values numbers r start written (Working f s sent)
      → block_line_coded tops values numbers f front false picture buffer s ≡ (Ok f', bytes, s')
      → (line pel : ℕ) → has_line line ≡ true → has_level r pel ≡ true → is_coded (mode_of tops values f bytes s line pel) ≡ true
      → distance (prepared_pel_of r picture line pel) (prediction_of tops values f bytes s line pel) ≤ near_limit
      → distance (prepared_pel_of r picture line pel) (coded_pel_of tops values f bytes s line pel) ≤ shortfalls (characteristic_in bytes)

  -- PARITIES COUNT ONES. The parity that a finish told, at a decoder and at a coder whose memories began with pels,
  -- has a 1 exactly for the planes in which the counted pels of the frame hold an even number of ones.
  abbrev pub ParitiesCountOnes : Type 0
  ParitiesCountOnes =
      ((r : Raster) (start s : Signal) (e : Idle) (taken : List Taken) → DecoderRun tops values r start taken (Resting e s)
      → (i : ℕ) → i < length taken → IsParity (taken_at taken i).parity (taken_at taken i).pels)
      × ((r : Raster) (start s : Signal) (e : Idle) (written : List Written) → OfPels start → CoderRun tops values numbers r start written (Resting e s)
      → (i : ℕ) → i < length written → IsParity (written_at written i).parity (written_at written i).pels)

  -- PLANES NAME WHAT DIFFERS. Whatever the memories began with, where the decoder matches from some frame on,
  -- each of its openings after the first names exactly the planes in which an odd number of the counted pels
  -- of the frame before differ between the ends.
  abbrev pub PlanesNameWhatDiffers : Type 0
  PlanesNameWhatDiffers =
      (r : Raster) (sc sd tc td : Signal) (ec ed : Idle) (j : ℕ) (written : List Written) (taken : List Taken)
      → CoderRun tops values numbers r sc written (Resting ec tc)
      → DecoderRun tops values r sd taken (Resting ed td)
      → Matches j written taken
      → (i : ℕ) → i + 1 < length taken → Names (taken_at taken i).planes (written_at written (i + 1)).pels (taken_at taken (i + 1)).pels

  -- REFRESH HEALS. Under the same matching both hold the same once a frame was wholly refreshed.
  abbrev pub RefreshHeals : Type 0
  RefreshHeals =
      (r : Raster) (sc sd tc td : Signal) (ec ed : Idle) (j : ℕ) (written : List Written) (taken : List Taken)
      → CoderRun tops values numbers r sc written (Resting ec tc)
      → DecoderRun tops values r sd taken (Resting ed td)
      → Matches j written taken → Refreshes r taken → SameHeld r tc td

  -- NOT IN VAIN. A coder whose memories reach far enough can finish a frame.
  abbrev pub FramesAreCoded : Type 0
  FramesAreCoded =
      (r : Raster) (start : Signal) → reach_test r start ≡ Ok tt
      → (written : List Written) × (e : Idle) × (s : Signal) × CoderRun tops values numbers r start written (Resting e s) × (1 ≤ length written)

  -- the record that a coder writes is taken by a decoder with the same frame in hand
  abbrev pub RecordsAreTaken : Type 0
  RecordsAreTaken =
      (r : Raster) (start s s' t : Signal) (written : List Written) (f f' g : Frame) (sent : Sent) (front bytes buffer : List ℕ) (stop : Bool) (picture : List ℤ)
      → OfPels start → CoderRun tops values numbers r start written (Working f s sent)
      → block_line_coded tops values numbers f front stop picture buffer s ≡ (Ok f', bytes, s')
      → reach_test r t ≡ Ok tt → g.raster ≡ f.raster → g.header ≡ f.header → g.done ≡ f.done
      → (g' : Frame) × (t' : Signal) × (block_line tops values g bytes t ≡ (Ok g', t'))

  -- a decoder whose memories reach far enough can match a coder from any of its frames on
  abbrev pub FramesAreTaken : Type 0
  FramesAreTaken =
      (r : Raster) (sc sd tc : Signal) (ec : Idle) (j : ℕ) (written : List Written)
      → OfPels sc → CoderRun tops values numbers r sc written (Resting ec tc) → reach_test r sd ≡ Ok tt
      → 1 ≤ j → j ≤ length written
      → (taken : List Taken) × (e : Idle) × (t : Signal) × DecoderRun tops values r sd taken (Resting e t) × Matches j written taken

  pub record LawOfRuns : Type 0 where
    pub cleared_ends_agree : ClearedEndsAgree
    pub coded_pels_in_range : CodedPelsInRange
    pub coded_pels_close : CodedPelsClose
    pub parities_count_ones : ParitiesCountOnes
    pub planes_name_what_differs : PlanesNameWhatDiffers
    pub refresh_heals : RefreshHeals
    pub frames_are_coded : FramesAreCoded
    pub records_are_taken : RecordsAreTaken
    pub frames_are_taken : FramesAreTaken

-- for every set that keeps the law of sets
abbrev pub Law : Type 0
Law =
    (tops shortfalls : Characteristic → ℕ) (values numbers : Characteristic → ℤ → ℤ)
    → ((q : Characteristic) → Lawful (tops q) (shortfalls q) (numbers q) (values q))
    → LawOfRuns tops shortfalls values numbers
