-- Coded pels come close to the prepared picture.
use Rattle.std.proofs.Common.{◌≡◌, ℕ, ◌+◌, ◌-◌, ◌*◌, ◌<◌, ◌≤◌, true, false, cond, ◌&&◌, leb, List, length, get_or, take, drop, ℤ, pos, negsuc, ◌+ℤ◌, ◌-ℤ◌, nat_abs, ◌≤ℤ◌, sym, refl, ap, ◌∙◌, subst, arith}
use Rattle.std.proofs.lemmas.Int.{ints, by_lt_z}
use Rattle.std.proofs.lemmas.Bool.{false≢true, leb-true, and_parts}
use Rattle.format.specs.Front.{front_length}
use Rattle.format.specs.Raster.{width}
use Rattle.format.specs.Record.{head_in, line_in, has_line}
use Rattle.format.specs.Sound.{has_level}
use Rattle.format.specs.declared.raster.Raster.{Raster}
use Rattle.format.specs.declared.words.Head.{Head}
use Rattle.prediction.specs.Rules.{sum, distance}
use Rattle.prediction.specs.declared.marks.BackgroundControl.{BackgroundControl}
use Rattle.quantizer.specs.Choice.{chosen}
use Rattle.quantizer.specs.Lawful.{Lawful, near_limit, largest_error}
use Rattle.quantizer.specs.declared.characteristic.Characteristic.{Characteristic}
use Rattle.quantizer.proofs.Uses.{error_value_up, error_value_down}
use Rattle.codec.specs.Block.{geometry_of, control_of, line_modes, blocks_of, lines_from, record_value}
use Rattle.codec.specs.Coder.{picture_line, picture_length, record_written}
use Rattle.codec.specs.Coding.{prepared, prediction_as, is_coded, level_at, code_pels, code_line}
use Rattle.codec.specs.Decoder.{Frame, above_next, between_fields}
use Rattle.codec.specs.Line.{block_at, pels, clamped_pels, level_value}
use Rattle.codec.specs.Modes.{pel_mode}
use Rattle.codec.specs.Signal.{Signal}
use Rattle.codec.specs.Step.{Course, course, worked_as, worked}
use Rattle.codec.specs.declared.modes.BlockModes.{BlockModes}
use Rattle.codec.specs.declared.modes.Geometry.{Geometry}
use Rattle.codec.specs.declared.modes.LineModes.{LineModes}
use Rattle.codec.specs.declared.modes.PelMode.{PelMode}
use Rattle.codec.specs.declared.modes.PelMode.TheVariants.{Clamped, Repeated, Subsampled, Forced, Burst, Adaptive}
use Rattle.codec.proofs.CodedRecords.{record_head, record_line}
use Rattle.law.specs.Law.{Within, mode_of, prediction_of, coded_pel_of, prepared_pel_of, characteristic_in}
use Rattle.law.proofs.Ranges.{Bounds, all_pels, sum_kept, prepared_within}
use Rattle.law.proofs.Steps.{Kept, prediction_within, clamped_pels_kept, level_said, level_sums, code_pels_kept, code_lines_kept, between_fields_kept}
use Rattle.law.proofs.Records.{line_pel, line_pels, course_at, line_at, record_blocks, record_before}
use Rattle.law.proofs.Levels.{prefix_decodes, code_level_at}

-- a coded pel is the sum of its prediction and its value
pub worked_sum : (m : PelMode) (g : Geometry) (l : LineModes) (b : BlockModes) (p : ℕ) (v : ℤ) (s : Signal) → is_coded m ≡ true
    → (worked_as m g l b p v s).x ≡ (sum (prediction_as m g l b p s) v).pel
worked_sum Clamped g l b p v s h = absurd (false≢true h)
worked_sum Repeated g l b p v s h = absurd (false≢true h)
worked_sum Subsampled g l b p v s h = absurd (false≢true h)
worked_sum Forced g l b p v s h = refl
worked_sum Burst g l b p v s h = refl
worked_sum Adaptive g l b p v s h = refl

-- the level x at a pel, with these memories before it, makes a coded pel that lies within the shortfall of the
-- prepared one, if the prediction is near
abbrev pub CloseIn : Geometry → LineModes → BlockModes → (ℕ → ℤ) → ℕ → ℕ → ℕ → ℤ → Signal → Type 0
CloseIn g l b value shortfall p x z s =
    is_coded (pel_mode l b.subsampled p) ≡ true
    → distance (prepared g p z) (prediction_as (pel_mode l b.subsampled p) g l b p s) ≤ near_limit
    → distance (prepared g p z) (worked g l b p (value x) s).x ≤ shortfall

-- so at pel i + 4 of a line with these levels
abbrev pub CloseAt : Geometry → BackgroundControl → LineModes → List BlockModes → (ℕ → ℤ) → ℕ → List ℕ → Course → ℤ → ℕ → Type 0
CloseAt g k l blocks value shortfall levels c z i =
    CloseIn g l (block_at blocks (i + 4)) value shortfall (i + 4) (get_or levels i 0) z
    (pels g k l blocks value 4 (take i levels) (clamped_pels g k l c)).signal

close_up : (p z v : ℤ) (shortfall : ℕ) → 3 ≤ shortfall → pos 0 ≤ℤ (z -ℤ p) → pos 0 ≤ℤ v → nat_abs v ≤ nat_abs (z -ℤ p) + 3 → nat_abs (z -ℤ p) ≤ nat_abs v + shortfall
    → distance z (p +ℤ v) ≤ shortfall
close_up p z v shortfall least he hv over under = omega (arith, ints)

close_down : (p z v : ℤ) (shortfall : ℕ) → 3 ≤ shortfall → (z -ℤ p) ≤ℤ pos 0 → v ≤ℤ pos 0 → nat_abs v ≤ nat_abs (z -ℤ p) + 3 → nat_abs (z -ℤ p) ≤ nat_abs v + shortfall
    → distance z (p +ℤ v) ≤ shortfall
close_down p z v shortfall least he hv over under = omega (arith, ints)

module _ {top shortfall : ℕ} {number values : ℤ → ℤ} (law : Lawful top shortfall number values) where
  -- a sum whose error is near lies within the shortfall of what was to be coded
  pub sum_close : (p z : ℤ) → distance z p ≤ near_limit → distance z (p +ℤ values (number (z -ℤ p))) ≤ shortfall
  sum_close p z near =
      let e = z -ℤ p in
      let v = values (number e) in
      let fits : nat_abs e ≤ largest_error = omega arith in
      let over = law.overshoot e fits in
      let under = law.shortfall_kept e near in
      by_lt_z (pos 0) e
      (λ up. let from : pos 0 ≤ℤ e = omega (arith, ints) in close_up p z v shortfall law.shortfall_least from (error_value_up law e fits from) over under)
      (λ down. close_down p z v shortfall law.shortfall_least down (error_value_down law e fits down) over under)

  module _ {low high : ℤ} (bounds : Bounds low high) where
    -- at one pel, from what the memories hold before it
    pub pel_close : (g : Geometry) (l : LineModes) (b : BlockModes) (p : ℕ) (z : ℤ) (s : Signal) → Within low high s
        → CloseIn g l b (level_value top values) shortfall p (level_at number false g l b p z s) z s
    pel_close g l b p z s w is near =
        let m = pel_mode l b.subsampled p in
        let y = prepared g p z in
        let predicted = prediction_as m g l b p s in
        let hp = prediction_within bounds m g l b p s w in
        let hz = prepared_within g p z in
        let v = level_value top values (level_at number false g l b p z s) in
        let same : v ≡ values (number (y -ℤ predicted)) =
        level_said law bounds false m predicted y hp hz ∙ ap (λ c. values (cond (c && true) (number (y -ℤ predicted)) (pos 0))) is in
        let x : (worked_as m g l b p v s).x ≡ predicted +ℤ values (number (y -ℤ predicted)) =
        worked_sum m g l b p v s is ∙ (sum_kept bounds (predicted +ℤ v) (level_sums law bounds false m predicted y hp hz)).0 ∙ ap (λ u. predicted +ℤ u) same in
        subst (λ u. distance y u ≤ shortfall) (sym x) (sum_close predicted y near)

    -- at each pel of a line, over the levels that were found in it
    pub line_close : (held : ℕ) (g : Geometry) (k : BackgroundControl) (l : LineModes) (blocks : List BlockModes) (zs : List ℤ) (c : Course)
        → Kept low high held c → (i : ℕ) → i < length (drop 3 zs)
        → CloseAt g k l blocks (level_value top values) shortfall (code_line number false g k l blocks (level_value top values) zs c).levels c
        (get_or (drop 3 zs) i (pos 0)) i
    line_close held g k l blocks zs c kept i h =
        let value = level_value top values in
        let here = clamped_pels g k l c in
        let ys = drop 3 zs in
        let levels = (code_pels number false g k l blocks value 4 ys here).levels in
        let b = block_at blocks (i + 4) in
        let z = get_or ys i (pos 0) in
        let at = (code_pels number false g k l blocks value 4 (take i ys) here).after in
        let so_far = code_pels_kept law bounds held false g k l blocks 4 (take i ys) here (clamped_pels_kept bounds held g k l c kept) in
        let P : ℕ → Signal → Type 0 = λ x s. CloseIn g l b value shortfall (i + 4) x z s in
        subst (λ d. P (get_or levels i 0) d.signal) (prefix_decodes number false g k l blocks value 4 ys here i)
        (subst (λ x. P x at.signal) (sym (code_level_at number false g k l blocks value 4 ys here i h))
        (pel_close g l b (i + 4) z at.signal so_far.0))

-- closeness at a pel of a line, of a front with this head and these blocks, with these levels and this course before the line
module _ (tops shortfalls : Characteristic → ℕ) (values : Characteristic → ℤ → ℤ) (f : Frame) (line i : ℕ) where
  abbrev CloseOver : ℕ → ℤ → Head → List BlockModes → List ℕ → Course → Type 0
  CloseOver pel z head blocks levels c =
      let g = geometry_of f.raster in
      let k = control_of f.header in
      let l = line_modes f.header head (leb f.raster.block_lines f.done) (above_next f) line in
      let q = chosen head.qc1 head.qc2 in
      let value = level_value (tops q) (values q) in
      CloseIn g l (block_at blocks pel) value (shortfalls q) pel (get_or levels i 0) z (pels g k l blocks value 4 (take i levels) (clamped_pels g k l c)).signal

module _ (tops shortfalls : Characteristic → ℕ) (values numbers : Characteristic → ℤ → ℤ) (law : (q : Characteristic) → Lawful (tops q) (shortfalls q) (numbers q) (values q))
    (f : Frame) (front : List ℕ) (picture : List ℤ) (s : Signal) (w : Within (negsuc 127) (pos 127) s) where
  course_at_kept : (line : ℕ) → Kept (negsuc 127) (pos 127) f.tally.held (course_at tops values numbers f front false picture s line)
  course_at_kept line =
      code_lines_kept tops shortfalls values numbers law all_pels f.tally.held f.raster f.header (leb f.raster.block_lines f.done) (above_next f) front false picture 1
      (line - 1) (between_fields f (course s f.tally)) (between_fields_kept all_pels f.tally.held f (course s f.tally) (w, refl))

  -- at a pel of a line, over the coder's own levels
  found_close : (line pel : ℕ) → length picture ≡ picture_length f.raster → 1 ≤ line → line ≤ 8 → 4 ≤ pel → pel ≤ width f.raster
      → CloseOver tops shortfalls values f line (pel - 4) pel (get_or picture ((line - 1) * width f.raster + (pel - 1)) (pos 0)) (head_in front)
      (blocks_of (geometry_of f.raster) f.raster f.header.sbc front) (line_at tops values numbers f front false picture s line).levels
      (course_at tops values numbers f front false picture s line)
  found_close line pel long low high first last =
      let r = f.raster in
      let g = geometry_of r in
      let i = pel - 4 in
      let head = head_in front in
      let l = line_modes f.header head (leb r.block_lines f.done) (above_next f) line in
      let blocks = blocks_of g r f.header.sbc front in
      let levels = (line_at tops values numbers f front false picture s line).levels in
      let c = course_at tops values numbers f front false picture s line in
      let there : i + 4 ≡ pel = omega arith in
      let column : 3 + i ≡ pel - 1 = omega arith in
      let z : get_or (drop 3 (picture_line r picture line)) i (pos 0) ≡ get_or picture ((line - 1) * width r + (pel - 1)) (pos 0) =
      line_pel r picture line low i (omega arith) ∙ ap (λ (n : ℕ). get_or picture ((line - 1) * width r + n) (pos 0)) column in
      let over : ℕ → ℤ → Type 0 = λ n y. CloseOver tops shortfalls values f line i n y head blocks levels c in
      subst (λ n. over n (get_or picture ((line - 1) * width r + (pel - 1)) (pos 0))) there
      (subst (over (i + 4)) z
      (line_close (law (characteristic_in front)) all_pels f.tally.held g (control_of f.header) l blocks (picture_line r picture line) c (course_at_kept line) i
      (omega (arith, line_pels r picture line low long high))))

  -- at every pel of the block-line, as the record that is written has it
  module _ (long : length front ≡ front_length f.raster) (pels : length picture ≡ picture_length f.raster) where
    written_close : (line pel : ℕ) → 1 ≤ line → line ≤ 8 → 4 ≤ pel → pel ≤ width f.raster
        → is_coded (mode_of tops values f (record_written tops values numbers f front false picture s) s line pel) ≡ true
        → distance (prepared_pel_of f.raster picture line pel) (prediction_of tops values f (record_written tops values numbers f front false picture s) s line pel) ≤ near_limit
        → distance (prepared_pel_of f.raster picture line pel) (coded_pel_of tops values f (record_written tops values numbers f front false picture s) s line pel)
        ≤ shortfalls (characteristic_in (record_written tops values numbers f front false picture s))
    written_close line pel low high first last =
        let r = f.raster in
        let bytes = record_written tops values numbers f front false picture s in
        let blocks_in : List ℕ → List BlockModes = blocks_of (geometry_of r) r f.header.sbc in
        let levels = line_in r bytes line in
        let before = lines_from r f.header (leb r.block_lines f.done) (above_next f) (record_value tops values bytes) bytes 1 (line - 1) (between_fields f (course s f.tally)) in
        let over : Head → List BlockModes → List ℕ → Course → Type 0 =
        CloseOver tops shortfalls values f line (pel - 4) pel (get_or picture ((line - 1) * width r + (pel - 1)) (pos 0)) in
        subst (λ hd. over hd (blocks_in bytes) levels before) (sym (record_head tops values numbers f front false picture s long))
        (subst (λ bs. over (head_in front) bs levels before) (sym (record_blocks tops values numbers f front false picture s long))
        (subst (λ ls. over (head_in front) (blocks_in front) ls before) (sym (record_line tops values numbers f front false picture s long pels line low high))
        (subst (over (head_in front) (blocks_in front) (line_at tops values numbers f front false picture s line).levels)
        (sym (record_before tops values numbers f front false picture s long pels line low high)) (found_close line pel pels low high first last))))

    pub coded_pels_close : (bytes : List ℕ) → bytes ≡ record_written tops values numbers f front false picture s
        → (r : Raster) → f.raster ≡ r
        → (line pel : ℕ) → has_line line ≡ true → has_level r pel ≡ true → is_coded (mode_of tops values f bytes s line pel) ≡ true
        → distance (prepared_pel_of r picture line pel) (prediction_of tops values f bytes s line pel) ≤ near_limit
        → distance (prepared_pel_of r picture line pel) (coded_pel_of tops values f bytes s line pel) ≤ shortfalls (characteristic_in bytes)
    coded_pels_close bytes is r same line pel is-line is-level =
        let on_line = and_parts (leb 1 line) (leb line 8) is-line in
        let on-pel = and_parts (leb 4 pel) (leb pel (width r)) is-level in
        let low : 1 ≤ line = leb-true 1 line on_line.0 in
        let high : line ≤ 8 = leb-true line 8 on_line.1 in
        let first : 4 ≤ pel = leb-true 4 pel on-pel.0 in
        let last : pel ≤ width f.raster = subst (λ t. pel ≤ width t) (sym same) (leb-true pel (width r) on-pel.1) in
        let close : List ℕ → Raster → Type 0 = λ xs t.
        is_coded (mode_of tops values f xs s line pel) ≡ true
        → distance (prepared_pel_of t picture line pel) (prediction_of tops values f xs s line pel) ≤ near_limit
        → distance (prepared_pel_of t picture line pel) (coded_pel_of tops values f xs s line pel) ≤ shortfalls (characteristic_in xs) in
        subst (close bytes) same (subst (λ xs. close xs f.raster) (sym is) (written_close line pel low high first last))
