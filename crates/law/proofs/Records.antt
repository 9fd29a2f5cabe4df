-- The record that a coder writes, as a decoder reads it: the way through its lines, and its levels.
use Rattle.std.proofs.Common.{◌≡◌, ℕ, zero, suc, ◌+◌, ◌-◌, ◌*◌, ◌<◌, ◌≤◌, Bool, true, false, leb, List, length, get_or, drop, ℤ, pos, negsuc, nat_abs, sym, refl, ap, ◌∙◌, subst, suc-mul, arith}
use Rattle.std.proofs.lemmas.Nat.{mul-le}
use Rattle.std.proofs.lemmas.List.Edits.{length-between, get_or-between}
use Rattle.std.proofs.lemmas.List.{length-drop, get_or-drop}
use Rattle.std.proofs.lemmas.Bool.{and_parts, leb-true}
use Rattle.format.specs.Front.{front_length, front_written}
use Rattle.format.specs.Raster.{width}
use Rattle.format.specs.Record.{head_in, has_line, line_in, level_in}
use Rattle.format.specs.Sound.{has_level}
use Rattle.format.specs.declared.header.Header.{Header}
use Rattle.format.specs.declared.raster.Raster.{Raster}
use Rattle.format.specs.declared.words.Head.{Head}
use Rattle.quantizer.specs.Choice.{chosen}
use Rattle.quantizer.specs.Lawful.{Lawful}
use Rattle.quantizer.specs.declared.characteristic.Characteristic.{Characteristic}
use Rattle.codec.specs.Block.{geometry_of, control_of, line_modes, blocks_of, lines_from, record_value}
use Rattle.codec.specs.Coder.{code_lines, coded_lines, picture_line, picture_length, record_written}
use Rattle.codec.specs.Coding.{is_coded, Coded}
use Rattle.codec.specs.Decoder.{Frame, above_next, between_fields, next_course, top_in}
use Rattle.codec.specs.Line.{block_at, line_work, level_value, clamped_pels}
use Rattle.codec.specs.Modes.{pel_mode}
use Rattle.codec.specs.Signal.{Signal}
use Rattle.codec.specs.Step.{Course, course}
use Rattle.codec.specs.declared.modes.Above.{Above}
use Rattle.codec.specs.declared.modes.BlockModes.{BlockModes}
use Rattle.codec.proofs.CodedLines.{coded_decodes}
use Rattle.codec.proofs.CodedRecords.{lines_coded, line_coded, course_at_lem, lines_split, blocks_front, written_front_long, record_is, record_head, record_line, coded_course}
use Rattle.law.specs.Law.{Within, mode_of}
use Rattle.law.proofs.Levels.{LevelFits, line_of_coded}
use Rattle.law.proofs.Ranges.{Bounds, all_pels}
use Rattle.law.proofs.Steps.{Kept, between_fields_kept, coded_lines_within}

-- the pels of a line of the picture that have a level
module _ (r : Raster) (picture : List ℤ) (line : ℕ) (low : 1 ≤ line) where
  row : line * width r ≡ (line - 1) * width r + width r
  row = let one : line ≡ suc (line - 1) = omega arith in ap (λ (n : ℕ). n * width r) one ∙ suc-mul (line - 1) (width r)

  pub line_pel : (i : ℕ) → i < width r - 3 → get_or (drop 3 (picture_line r picture line)) i (pos 0) ≡ get_or picture ((line - 1) * width r + (3 + i)) (pos 0)
  line_pel i h =
      get_or-drop 3 (picture_line r picture line) i (pos 0)
      ∙ get_or-between picture ((line - 1) * width r) (line * width r) (3 + i) (pos 0) (omega (arith, row))

  pub line_pels : length picture ≡ picture_length r → line ≤ 8 → length (drop 3 (picture_line r picture line)) ≡ width r - 3
  line_pels long high =
      let all : line * width r ≤ 8 * width r = mul-le line (width r) 8 (width r) high (omega arith) in
      let here = length-between picture ((line - 1) * width r) (line * width r) (omega arith) in
      length-drop 3 (picture_line r picture line) ∙ omega (arith, row)

-- the way of a coder through a block-line, line after line
module _ (tops : Characteristic → ℕ) (values numbers : Characteristic → ℤ → ℤ) (r : Raster) (h : Header) (second : Bool) (above : Above)
    (front : List ℕ) (stop : Bool) (picture : List ℤ) (c : Course) where
  abbrev at : ℕ → Course
  at line = course_at_lem tops values numbers r h second above front stop picture line c

  abbrev here : ℕ → Coded
  here line = line_coded tops values numbers r h second above front stop picture line (at line)

  -- the course before the next line
  course_more : (line : ℕ) → 1 ≤ line → at (line + 1) ≡ (here line).after
  unfolding code_lines
  course_more line low =
      let a = line - 1 in
      let count : line + 1 - 1 ≡ a + 1 = omega arith in
      let same : 1 + a ≡ line = omega arith in
      ap (λ (n : ℕ). (lines_coded tops values numbers r h second above front stop picture 1 n c).after) count
      ∙ ap (λ (x : Coded). x.after) (lines_split tops values numbers r h second above front stop picture a 1 1 c)
      ∙ ap (λ (n : ℕ). (line_coded tops values numbers r h second above front stop picture n (at line)).after) same

  -- a decoder goes the coder's way through any of the lines of a record whose front is the coder's and whose
  -- lines hold the levels that were found
  lines_follow : (bytes : List ℕ) → head_in bytes ≡ head_in front → blocks_of (geometry_of r) r h.sbc bytes ≡ blocks_of (geometry_of r) r h.sbc front
      → ((line : ℕ) → 1 ≤ line → line ≤ 8 → line_in r bytes line ≡ (here line).levels)
      → (count line : ℕ) → 1 ≤ line → line + count ≤ 9
      → lines_from r h second above (record_value tops values bytes) bytes line count (at line) ≡ at (line + count)
  unfolding lines_from
  lines_follow bytes eh eb el zero line low high = let same : line ≡ line + 0 = omega arith in ap at same
  lines_follow bytes eh eb el (suc count) line low high =
      let g = geometry_of r in
      let k = control_of h in
      let work : Head → List BlockModes → List ℕ → Course =
      λ hd bs xs.
      let q = chosen hd.qc1 hd.qc2 in
      line_work g k (line_modes h hd second above line) bs (level_value (tops q) (values q)) xs (at line) in
      let q = chosen (head_in front).qc1 (head_in front).qc2 in
      let l = line_modes h (head_in front) second above line in
      let bs = blocks_of g r h.sbc front in
      let worked : work (head_in bytes) (blocks_of g r h.sbc bytes) (line_in r bytes line) ≡ at (line + 1) =
      ap (λ (hd : Head). work hd (blocks_of g r h.sbc bytes) (line_in r bytes line)) eh
      ∙ ap (λ (xs : List BlockModes). work (head_in front) xs (line_in r bytes line)) eb
      ∙ ap (work (head_in front) bs) (el line low (omega arith))
      ∙ sym (coded_decodes (numbers q) stop g k l bs (record_value tops values front) (drop 3 (picture_line r picture line)) 4 (clamped_pels g k l (at line)))
      ∙ sym (course_more line low) in
      let next : line + 1 + count ≡ line + suc count = omega arith in
      ap (lines_from r h second above (record_value tops values bytes) bytes (line + 1) count) worked
      ∙ lines_follow bytes eh eb el count (line + 1) (omega arith) (omega arith)
      ∙ ap at next

-- the coder's course before a line of the next block-line of a frame in hand, and the line after it
module _ (tops : Characteristic → ℕ) (values numbers : Characteristic → ℤ → ℤ) (f : Frame) (front : List ℕ) (stop : Bool) (picture : List ℤ) (s : Signal) where
  abbrev pub course_at : ℕ → Course
  course_at line =
      course_at_lem tops values numbers f.raster f.header (leb f.raster.block_lines f.done) (above_next f) (front_written f.raster stop front) stop picture line
      (between_fields f (course s f.tally))

  abbrev pub line_at : ℕ → Coded
  line_at line =
      line_coded tops values numbers f.raster f.header (leb f.raster.block_lines f.done) (above_next f) (front_written f.raster stop front) stop picture line
      (course_at line)

-- a record that a coder writes for a block-line of a frame in hand
module _ (tops : Characteristic → ℕ) (values numbers : Characteristic → ℤ → ℤ) (f : Frame) (front : List ℕ) (stop : Bool) (picture : List ℤ) (s : Signal)
    (long : length front ≡ front_length f.raster) where
  -- its blocks are those of the front that is written
  pub record_blocks : blocks_of (geometry_of f.raster) f.raster f.header.sbc (record_written tops values numbers f front stop picture s)
      ≡ blocks_of (geometry_of f.raster) f.raster f.header.sbc (front_written f.raster stop front)
  record_blocks =
      let r = f.raster in
      ap (blocks_of (geometry_of r) r f.header.sbc) (record_is tops values numbers f front stop picture s)
      ∙ blocks_front r (front_written r stop front) (coded_lines tops values numbers f front stop picture s).levels (written_front_long r stop front long) (geometry_of r) f.header.sbc

  -- before each of its lines a decoder stands where the coder stood
  pub record_before : length picture ≡ picture_length f.raster → (line : ℕ) → 1 ≤ line → line ≤ 8
      → lines_from f.raster f.header (leb f.raster.block_lines f.done) (above_next f)
      (record_value tops values (record_written tops values numbers f front stop picture s)) (record_written tops values numbers f front stop picture s) 1 (line - 1)
      (between_fields f (course s f.tally))
      ≡ course_at tops values numbers f front stop picture s line
  unfolding code_lines
  record_before pels line low high =
      let r = f.raster in
      let second = leb r.block_lines f.done in
      let written = front_written r stop front in
      let c = between_fields f (course s f.tally) in
      let last : 1 + (line - 1) ≡ line = omega arith in
      lines_follow tops values numbers r f.header second (above_next f) written stop picture c (record_written tops values numbers f front stop picture s)
      (record_head tops values numbers f front stop picture s long) record_blocks (record_line tops values numbers f front stop picture s long pels)
      (line - 1) 1 (omega arith) (omega arith)
      ∙ ap (course_at tops values numbers f front stop picture s) last

-- a decoder given the record keeps its memories between the bounds, as the coder does, and counts no held pel
pub coded_course_within : (tops shortfalls : Characteristic → ℕ) (values numbers : Characteristic → ℤ → ℤ)
    → ((q : Characteristic) → Lawful (tops q) (shortfalls q) (numbers q) (values q)) → {low high : ℤ} → Bounds low high
    → (f : Frame) (front : List ℕ) (stop : Bool) (picture : List ℤ) (s : Signal) (bytes : List ℕ)
    → length front ≡ front_length f.raster → length picture ≡ picture_length f.raster → bytes ≡ record_written tops values numbers f front stop picture s
    → Within low high s → Within low high (next_course tops values f bytes s).signal × ((next_course tops values f bytes s).tally.held ≡ f.tally.held)
coded_course_within tops shortfalls values numbers law {low} {high} bounds f front stop picture s bytes long pels is w =
    let there : next_course tops values f bytes s ≡ (coded_lines tops values numbers f front stop picture s).after =
    ap (λ xs. next_course tops values f xs s) is ∙ coded_course tops values numbers f front stop picture s long pels in
    subst (Kept low high f.tally.held) (sym there) (coded_lines_within tops shortfalls values numbers law bounds f front stop picture s w)

module _ (tops shortfalls : Characteristic → ℕ) (values numbers : Characteristic → ℤ → ℤ) (law : (q : Characteristic) → Lawful (tops q) (shortfalls q) (numbers q) (values q))
    (f : Frame) (front : List ℕ) (stop : Bool) (picture : List ℤ) (s : Signal) (w : Within (negsuc 127) (pos 127) s)
    (long : length front ≡ front_length f.raster) (pels : length picture ≡ picture_length f.raster) where
  -- each level of the record is within the top, and 0 where no pel is coded
  pub record_fits : (line pel : ℕ) → 1 ≤ line → line ≤ 8 → 4 ≤ pel → pel ≤ width f.raster
      → LevelFits (top_in tops (record_written tops values numbers f front stop picture s))
      (mode_of tops values f (record_written tops values numbers f front stop picture s) s line pel)
      (get_or (line_in f.raster (record_written tops values numbers f front stop picture s) line) (pel - 4) 0)
  record_fits line pel low high first last =
      let r = f.raster in
      let second = leb r.block_lines f.done in
      let bytes = record_written tops values numbers f front stop picture s in
      let written = front_written r stop front in
      let blocks_in : List ℕ → List BlockModes = blocks_of (geometry_of r) r f.header.sbc in
      let c = between_fields f (course s f.tally) in
      let i = pel - 4 in
      let there : i + 4 ≡ pel = omega arith in
      let P : ℕ → Head → List BlockModes → List ℕ → Type 0 =
      λ n hd bs ls. LevelFits (tops (chosen hd.qc1 hd.qc2)) (pel_mode (line_modes f.header hd second (above_next f) line) (block_at bs n).subsampled n) (get_or ls i 0) in
      let kept = between_fields_kept all_pels f.tally.held f (course s f.tally) (w, refl) in
      subst (λ hd. P pel hd (blocks_in bytes) (line_in r bytes line)) (sym (record_head tops values numbers f front stop picture s long))
      (subst (λ bs. P pel (head_in written) bs (line_in r bytes line)) (sym (record_blocks tops values numbers f front stop picture s long))
      (subst (P pel (head_in written) (blocks_in written)) (sym (record_line tops values numbers f front stop picture s long pels line low high))
      (subst (λ n. P n (head_in written) (blocks_in written) (line_at tops values numbers f front stop picture s line).levels) there
      (line_of_coded tops shortfalls values numbers law all_pels r f.header second (above_next f) written stop picture line c kept.0 i
      (omega (arith, line_pels r picture line low pels high))))))

  -- the same of its levels as numbers
  module _ (line pel : ℕ) (is-line : has_line line ≡ true) (is-level : has_level f.raster pel ≡ true) where
    level_fitting : LevelFits (top_in tops (record_written tops values numbers f front stop picture s))
        (mode_of tops values f (record_written tops values numbers f front stop picture s) s line pel)
        (get_or (line_in f.raster (record_written tops values numbers f front stop picture s) line) (pel - 4) 0)
    level_fitting =
        let on_line = and_parts (leb 1 line) (leb line 8) is-line in
        let on-pel = and_parts (leb 4 pel) (leb pel (width f.raster)) is-level in
        record_fits line pel (leb-true 1 line on_line.0) (leb-true line 8 on_line.1) (leb-true 4 pel on-pel.0) (leb-true pel (width f.raster) on-pel.1)

    pub record_level_within : nat_abs (level_in f.raster (record_written tops values numbers f front stop picture s) line pel)
        ≤ top_in tops (record_written tops values numbers f front stop picture s)
    unfolding level_in
    record_level_within = level_fitting.within

    pub record_level_silent : is_coded (mode_of tops values f (record_written tops values numbers f front stop picture s) s line pel) ≡ false
        → level_in f.raster (record_written tops values numbers f front stop picture s) line pel ≡ pos 0
    unfolding level_in
    record_level_silent = level_fitting.silent
