-- The record that a coder writes: its parts, its length, and that a decoder given it goes the coder's way.
use Rattle.std.proofs.Common.{◌≡◌, ℕ, zero, suc, ◌+◌, ◌-◌, ◌*◌, ◌≤◌, Bool, true, false, cond, leb, List, [], ◌∷◌, ◌++◌, map, length, take, drop, ℤ, Some, None, sym, refl, ap, ◌∙◌, add-zero, suc-mul, zero-add, arith}
use Rattle.std.specs.List.{range_with_len}
use Rattle.std.proofs.lemmas.Nat.{mul-le}
use Rattle.std.proofs.lemmas.List.FromFn.{length-map-range_with_len}
use Rattle.std.proofs.lemmas.List.Edits.{length-between}
use Rattle.std.proofs.lemmas.List.{append_assoc, length-append, length-drop, get_or_append_left, take_at, take-append-le, drop_at, drop-append-le}
use Rattle.format.specs.Bits.{field_of}
use Rattle.format.specs.Front.{front_length, still, stilled, front_written}
use Rattle.format.specs.Raster.{blocks, width, word_bytes, line_levels, record_length}
use Rattle.format.specs.Record.{head_of, head_in, head_marked, words_in, word_of, word_in, has_word, line_start, line_in}
use Rattle.format.specs.RecordWriting.{words_byte}
use Rattle.format.specs.Survival.{words_read}
use Rattle.format.specs.Usable.{fill_in}
use Rattle.format.specs.declared.header.Header.{Header}
use Rattle.format.specs.declared.raster.Raster.{Raster}
use Rattle.format.specs.declared.words.Head.{Head}
use Rattle.format.proofs.RasterLaws.{record_length_is}
use Rattle.prediction.specs.declared.marks.BackgroundControl.{BackgroundControl}
use Rattle.quantizer.specs.Choice.{chosen}
use Rattle.quantizer.specs.declared.characteristic.Characteristic.{Characteristic}
use Rattle.codec.specs.Block.{geometry_of, modes_of, most_blocks, blocks_of, control_of, line_modes, lines_from, block_line_work, record_value}
use Rattle.codec.specs.Coder.{picture_length, picture_line, code_lines, coded_lines, record_written}
use Rattle.codec.specs.Coding.{level_at, Coded, coded, code_pels, code_line}
use Rattle.codec.specs.Decoder.{Frame, above_next, between_fields, next_course}
use Rattle.codec.specs.Line.{block_at, clamped_pels, line_work, level_value}
use Rattle.codec.specs.Signal.{Signal}
use Rattle.codec.specs.Step.{Course, course, step}
use Rattle.codec.specs.Written.{before}
use Rattle.codec.specs.declared.modes.Above.{Above}
use Rattle.codec.specs.declared.modes.BlockModes.{BlockModes}
use Rattle.codec.specs.declared.modes.Geometry.{Geometry}
use Rattle.codec.specs.declared.modes.LineModes.{LineModes}
use Rattle.codec.proofs.CodedLines.{coded_decodes}

-- FRONT. What stands in the head and the words is the same whatever follows them.
module _ (r : Raster) (front levels : List ℕ) (long : length front ≡ front_length r) where
  pub head_front : head_in (front ++ levels) ≡ head_in front
  unfolding head_in
  head_front = ap head_of (get_or_append_left front levels 0 0 (omega arith))

  pub marked_front : head_marked (front ++ levels) ≡ head_marked front
  marked_front = ap (λ (b : ℕ). head_marked (b ∷ [])) (get_or_append_left front levels 0 0 (omega arith))

  pub words_front : words_in r (front ++ levels) ≡ words_in r front
  words_front =
      let n = 1 + word_bytes r - 1 in
      let some : 1 ≤ length front = omega arith in
      let left = length-drop 1 front in
      ap (take n) (drop-append-le 1 front levels some) ∙ take-append-le n (drop 1 front) levels (omega arith)

  pub word_front : (block : ℕ) → word_in r (front ++ levels) block ≡ word_in r front block
  unfolding word_in
  word_front block = ap (λ (ws : List ℕ). word_of ws (10 * (block - 2))) words_front

  pub fill_front : fill_in r (front ++ levels) ≡ fill_in r front
  fill_front = ap (λ (ws : List ℕ). field_of ws (10 * blocks r) (8 * word_bytes r - 10 * blocks r)) words_front

  pub blocks_front : (g : Geometry) (sbc : Bool) → blocks_of g r sbc (front ++ levels) ≡ blocks_of g r sbc front
  unfolding word_in blocks_of
  blocks_front g sbc =
      let of : Head → List ℕ → List BlockModes =
      λ h ws. map (λ b. modes_of g sbc h (cond (has_word r b) (Some (word_of ws (10 * (b - 2)))) None)) (range_with_len 1 most_blocks) in
      ap (λ (h : Head). of h (words_in r (front ++ levels))) head_front ∙ ap (of (head_in front)) words_front

  -- the levels of a line are those that stand behind the lines before it
  pub line_behind : (line : ℕ) (before here after : List ℕ) → 1 ≤ line → length before ≡ (line - 1) * line_levels r → length here ≡ line_levels r
      → levels ≡ before ++ (here ++ after) → line_in r (front ++ levels) line ≡ here
  unfolding line_in
  line_behind line before here after low past wide is =
      let start = line_start r line in
      let some : start + line_levels r - start ≡ line_levels r = omega arith in
      let place : length (front ++ before) ≡ start = length-append front before ∙ omega arith in
      ap (λ (n : ℕ). take n (drop start (front ++ levels))) some
      ∙ ap (λ (xs : List ℕ). take (line_levels r) (drop start (front ++ xs))) is
      ∙ ap (λ (xs : List ℕ). take (line_levels r) (drop start xs)) (sym (append_assoc front before (here ++ after)))
      ∙ ap (take (line_levels r)) (drop_at (front ++ before) (here ++ after) start place)
      ∙ take_at here after (line_levels r) wide

-- the front that is written is as long as the one that is given
pub written_front_long : (r : Raster) (stop : Bool) (front : List ℕ) → length front ≡ front_length r → length (front_written r stop front) ≡ front_length r
unfolding stilled
written_front_long r true front long =
    let n = length-map-range_with_len (words_byte (map still (words_read r front))) 0 (word_bytes r) in
    omega arith
written_front_long r false front long = long

-- a level is found for each pel
pub levels_long : (number : ℤ → ℤ) (stop : Bool) (g : Geometry) (k : BackgroundControl) (l : LineModes) (blocks : List BlockModes) (value : ℕ → ℤ)
    (p : ℕ) (zs : List ℤ) (c : Course) → length (code_pels number stop g k l blocks value p zs c).levels ≡ length zs
unfolding code_pels
levels_long number stop g k l blocks value p [] c = refl
levels_long number stop g k l blocks value p (z ∷ zs) c =
    let b = block_at blocks p in
    let x = level_at number stop g l b p z c.signal in
    ap suc (levels_long number stop g k l blocks value (p + 1) zs (step g k l b p (value x) c))

-- LINES. The lines of a block-line, coded under a front.
module _ (tops : Characteristic → ℕ) (values numbers : Characteristic → ℤ → ℤ) (r : Raster) (h : Header) (second : Bool) (above : Above)
    (front : List ℕ) (stop : Bool) (picture : List ℤ) where
  -- so many lines from a line on
  abbrev pub lines_coded : ℕ → ℕ → Course → Coded
  lines_coded line count c = code_lines tops values numbers r h second above front stop picture line count c

  -- one line
  abbrev pub line_coded : ℕ → Course → Coded
  line_coded line c =
      code_line (numbers (chosen (head_in front).qc1 (head_in front).qc2)) stop (geometry_of r) (control_of h) (line_modes h (head_in front) second above line)
      (blocks_of (geometry_of r) r h.sbc front) (record_value tops values front) (picture_line r picture line) c

  -- the course before a line of a block-line
  abbrev pub course_at_lem : ℕ → Course → Course
  course_at_lem line c = (lines_coded 1 (line - 1) c).after

  -- some lines, and those after them
  pub lines_split : (a b line : ℕ) (c : Course)
      → lines_coded line (a + b) c ≡ before (lines_coded line a c).levels (lines_coded (line + a) b (lines_coded line a c).after)
  unfolding code_lines
  lines_split zero b line c =
      ap (λ (n : ℕ). lines_coded line n c) (zero-add b) ∙ sym (ap (λ (l : ℕ). lines_coded l b c) (add-zero line))
  lines_split (suc a) b line c =
      let here = line_coded line c in
      let some = lines_coded (line + 1) a here.after in
      let next : line + 1 + a ≡ line + suc a = omega arith in
      let count : suc a + b ≡ suc (a + b) = omega arith in
      let rest = lines_coded (line + 1 + a) b some.after in
      ap (λ (n : ℕ). lines_coded line n c) count
      ∙ ap (before here.levels) (lines_split a b (line + 1) here.after)
      ∙ ap (λ (xs : List ℕ). coded xs rest.after) (sym (append_assoc here.levels some.levels rest.levels))
      ∙ ap (λ (l : ℕ). before (here.levels ++ some.levels) (lines_coded l b some.after)) next

  module _ (pels : length picture ≡ picture_length r) where
    -- a line has as many levels as its layout
    pub line_long : (line : ℕ) (c : Course) → 1 ≤ line → line ≤ 8 → length (line_coded line c).levels ≡ line_levels r
    line_long line c low high =
        let w = width r in
        let zs = picture_line r picture line in
        let all : line * w ≤ 8 * w = mul-le line w 8 w high (omega arith) in
        let long = length-between picture ((line - 1) * w) (line * w) (omega arith) in
        let one : line ≡ suc (line - 1) = omega arith in
        let row : line * w ≡ (line - 1) * w + w = ap (λ (k : ℕ). k * w) one ∙ suc-mul (line - 1) w in
        levels_long (numbers (chosen (head_in front).qc1 (head_in front).qc2)) stop (geometry_of r) (control_of h) (line_modes h (head_in front) second above line)
        (blocks_of (geometry_of r) r h.sbc front) (record_value tops values front) 4 (drop 3 zs)
        (clamped_pels (geometry_of r) (control_of h) (line_modes h (head_in front) second above line) c)
        ∙ length-drop 3 zs ∙ omega arith

    -- so many lines have as many levels as theirs
    pub lines_long : (count line : ℕ) (c : Course) → 1 ≤ line → line + count ≤ 9 → length (lines_coded line count c).levels ≡ count * line_levels r
    unfolding code_lines
    lines_long zero line c low high = omega arith
    lines_long (suc count) line c low high =
        let here = line_coded line c in
        let rest = lines_coded (line + 1) count here.after in
        let this = line_long line c low (omega arith) in
        let others = lines_long count (line + 1) here.after (omega arith) (omega arith) in
        length-append here.levels rest.levels ∙ omega (arith, suc-mul count (line_levels r))

    module _ (long : length front ≡ front_length r) where
      -- each line of what is written holds the levels that were found in it
      pub line_found : (line : ℕ) (c : Course) → 1 ≤ line → line ≤ 8
          → line_in r (front ++ (lines_coded 1 8 c).levels) line ≡ (line_coded line (course_at_lem line c)).levels
      unfolding code_lines
      line_found line c low high =
          let a = line - 1 in
          let n = 8 - line in
          let all : 8 ≡ a + suc n = omega arith in
          let at : 1 + a ≡ line = omega arith in
          let so_far = lines_coded 1 a c in
          let here = line_coded line so_far.after in
          let rest = lines_coded (line + 1) n here.after in
          let levels : (lines_coded 1 8 c).levels ≡ so_far.levels ++ (here.levels ++ rest.levels) =
          ap (λ (k : ℕ). (lines_coded 1 k c).levels) all
          ∙ ap (λ (x : Coded). x.levels) (lines_split a (suc n) 1 c)
          ∙ ap (λ (l : ℕ). so_far.levels ++ (lines_coded l (suc n) so_far.after).levels) at in
          line_behind r front (lines_coded 1 8 c).levels long line so_far.levels here.levels rest.levels low
          (lines_long a 1 c (omega arith) (omega arith)) (line_long line so_far.after low high) levels

      -- a decoder given the levels goes the coder's way
      lines_decoded : (levels : List ℕ) (count line : ℕ) (c : Course) (done : List ℕ) → 1 ≤ line → line + count ≤ 9
          → length done ≡ (line - 1) * line_levels r → levels ≡ done ++ (lines_coded line count c).levels
          → lines_from r h second above (record_value tops values front) (front ++ levels) line count c ≡ (lines_coded line count c).after
      unfolding code_lines lines_from
      lines_decoded levels zero line c done low high past is = refl
      lines_decoded levels (suc count) line c done low high past is =
          let g = geometry_of r in
          let k = control_of h in
          let value = record_value tops values front in
          let bytes = front ++ levels in
          let here = line_coded line c in
          let rest = lines_coded (line + 1) count here.after in
          let this = line_long line c low (omega arith) in
          let one : line + 1 - 1 ≡ suc (line - 1) = omega arith in
          let row : (line + 1 - 1) * line_levels r ≡ (line - 1) * line_levels r + line_levels r =
          ap (λ (i : ℕ). i * line_levels r) one ∙ suc-mul (line - 1) (line_levels r) in
          let work : Head → List BlockModes → List ℕ → Course = λ hd bs xs. line_work g k (line_modes h hd second above line) bs value xs c in
          let worked : work (head_in bytes) (blocks_of g r h.sbc bytes) (line_in r bytes line) ≡ here.after =
          ap (λ (hd : Head). work hd (blocks_of g r h.sbc bytes) (line_in r bytes line)) (head_front r front levels long)
          ∙ ap (λ (bs : List BlockModes). work (head_in front) bs (line_in r bytes line)) (blocks_front r front levels long g h.sbc)
          ∙ ap (work (head_in front) (blocks_of g r h.sbc front)) (line_behind r front levels long line done here.levels rest.levels low past this is)
          ∙ sym (coded_decodes (numbers (chosen (head_in front).qc1 (head_in front).qc2)) stop g k (line_modes h (head_in front) second above line)
          (blocks_of g r h.sbc front) value (drop 3 (picture_line r picture line)) 4 (clamped_pels g k (line_modes h (head_in front) second above line) c)) in
          ap (lines_from r h second above value bytes (line + 1) count) worked
          ∙ lines_decoded levels count (line + 1) here.after (done ++ here.levels) (omega arith) (omega arith)
          (length-append done here.levels ∙ omega arith) (is ∙ sym (append_assoc done here.levels rest.levels))

      pub lines_decode : (c : Course)
          → lines_from r h second above (record_value tops values (front ++ (lines_coded 1 8 c).levels)) (front ++ (lines_coded 1 8 c).levels) 1 8 c
          ≡ (lines_coded 1 8 c).after
      lines_decode c =
          let levels = (lines_coded 1 8 c).levels in
          let value : Head → ℕ → ℤ = λ hd. level_value (tops (chosen hd.qc1 hd.qc2)) (values (chosen hd.qc1 hd.qc2)) in
          ap (λ (hd : Head). lines_from r h second above (value hd) (front ++ levels) 1 8 c) (head_front r front levels long)
          ∙ lines_decoded levels 8 1 c [] (omega arith) (omega arith) (omega arith) refl

-- RECORD. What is written for a block-line of a frame in hand.
module _ (tops : Characteristic → ℕ) (values numbers : Characteristic → ℤ → ℤ) (f : Frame) (front : List ℕ) (stop : Bool) (picture : List ℤ) (s : Signal) where
  pub record_is : record_written tops values numbers f front stop picture s
      ≡ front_written f.raster stop front ++ (coded_lines tops values numbers f front stop picture s).levels
  unfolding record_written
  record_is = refl

  module _ (long : length front ≡ front_length f.raster) (pels : length picture ≡ picture_length f.raster) where
    -- it is as long as the layout
    pub record_long : length (record_written tops values numbers f front stop picture s) ≡ record_length f.raster
    record_long =
        let r = f.raster in
        let written = front_written r stop front in
        let lines = (coded_lines tops values numbers f front stop picture s).levels in
        let first = written_front_long r stop front long in
        let rest = lines_long tops values numbers r f.header (leb r.block_lines f.done) (above_next f) written stop picture pels 8 1
        (between_fields f (course s f.tally)) (omega arith) (omega arith) in
        ap length record_is ∙ length-append written lines ∙ omega (arith, record_length_is r)

    -- a decoder given the record goes the coder's way
    pub coded_course : next_course tops values f (record_written tops values numbers f front stop picture s) s
        ≡ (coded_lines tops values numbers f front stop picture s).after
    unfolding record_written block_line_work
    coded_course =
        let r = f.raster in
        lines_decode tops values numbers r f.header (leb r.block_lines f.done) (above_next f) (front_written r stop front) stop picture pels
        (written_front_long r stop front long) (between_fields f (course s f.tally))

    -- each of its lines holds the levels that were found in it
    pub record_line : (line : ℕ) → 1 ≤ line → line ≤ 8
        → line_in f.raster (record_written tops values numbers f front stop picture s) line
        ≡ (line_coded tops values numbers f.raster f.header (leb f.raster.block_lines f.done) (above_next f) (front_written f.raster stop front) stop picture line
        (course_at_lem tops values numbers f.raster f.header (leb f.raster.block_lines f.done) (above_next f) (front_written f.raster stop front) stop picture line
        (between_fields f (course s f.tally)))).levels
    unfolding record_written
    record_line line low high =
        let r = f.raster in
        line_found tops values numbers r f.header (leb r.block_lines f.done) (above_next f) (front_written r stop front) stop picture pels
        (written_front_long r stop front long) line (between_fields f (course s f.tally)) low high

  -- its head is the one that is written
  pub record_head : length front ≡ front_length f.raster
      → head_in (record_written tops values numbers f front stop picture s) ≡ head_in (front_written f.raster stop front)
  record_head long =
      ap head_in record_is
      ∙ head_front f.raster (front_written f.raster stop front) (coded_lines tops values numbers f front stop picture s).levels
      (written_front_long f.raster stop front long)

  -- what is coded behind the front, under the modes of the next block-line, is what is coded for the frame
  pub record_coded : (e : Coded) (second : Bool) (above : Above) (c : Course)
      → second ≡ leb f.raster.block_lines f.done → above ≡ above_next f → c ≡ between_fields f (course s f.tally)
      → e ≡ before (front_written f.raster stop front)
      (code_lines tops values numbers f.raster f.header second above (front_written f.raster stop front) stop picture 1 8 c)
      → e ≡ before (front_written f.raster stop front) (coded_lines tops values numbers f front stop picture s)
  record_coded e second above c es ea ec found =
      let r = f.raster in
      let written = front_written r stop front in
      let lines : Bool → Above → Course → Coded =
      λ t a d. before written (code_lines tops values numbers r f.header t a written stop picture 1 8 d) in
      found
      ∙ ap (λ (t : Bool). lines t above c) es
      ∙ ap (λ (a : Above). lines (leb r.block_lines f.done) a c) ea
      ∙ ap (lines (leb r.block_lines f.done) (above_next f)) ec
