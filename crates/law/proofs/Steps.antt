-- The pels and lines of a coder: the memories stay between the bounds, and no pel is held.
use Rattle.std.proofs.Common.{◌≡◌, ℕ, zero, suc, ◌+◌, ◌-◌, ◌*◌, ◌≤◌, Bool, false, cond, not, ◌&&◌, eqb, leb, List, [], ◌∷◌, drop, ℤ, pos, negsuc, ◌+ℤ◌, ◌-ℤ◌, nat_abs, sym, refl, ap, ◌∙◌, subst, arith}
use Rattle.std.proofs.lemmas.Int.{ints}
use Rattle.format.specs.Front.{front_written}
use Rattle.format.specs.Raster.{width}
use Rattle.format.specs.Record.{head_in}
use Rattle.format.specs.declared.header.Header.{Header}
use Rattle.format.specs.declared.raster.Raster.{Raster}
use Rattle.prediction.specs.Rules.{prediction, x1, s1, s2, interpolation, new_background, byte}
use Rattle.prediction.specs.declared.marks.Around.{Around}
use Rattle.prediction.specs.declared.marks.Marks.{Marks}
use Rattle.prediction.specs.declared.marks.BackgroundControl.{BackgroundControl}
use Rattle.prediction.specs.declared.marks.Worked.{Worked}
use Rattle.quantizer.specs.Choice.{chosen}
use Rattle.quantizer.specs.Lawful.{Lawful}
use Rattle.quantizer.specs.declared.characteristic.Characteristic.{Characteristic}
use Rattle.quantizer.proofs.Uses.{value_zero}
use Rattle.codec.specs.Block.{geometry_of, control_of, line_modes, blocks_of, record_value}
use Rattle.codec.specs.Coder.{code_lines, coded_lines, picture_line}
use Rattle.codec.specs.Coding.{prepared, prediction_as, is_coded, level_for, level_at, code_pels, code_line}
use Rattle.codec.specs.Decoder.{Frame, flushed, between_fields, above_next}
use Rattle.codec.specs.Line.{block_at, burst_modes, clamped_pels, flush, resets, level_value}
use Rattle.codec.specs.Modes.{pel_mode, pel_is_luminance, lag}
use Rattle.codec.specs.Signal.{Signal, pel_at, marks_at, with_reset}
use Rattle.codec.specs.Step.{Course, course, intraframe_at, around, worked_as, worked, settled, enter_y, settle_above, enter_worked, step}
use Rattle.codec.specs.declared.modes.Above.{Above}
use Rattle.codec.specs.declared.modes.Above.TheVariants.{Reset, Pending}
use Rattle.codec.specs.declared.modes.BlockModes.{BlockModes}
use Rattle.codec.specs.declared.modes.Geometry.{Geometry}
use Rattle.codec.specs.declared.modes.LineModes.{LineModes}
use Rattle.codec.specs.declared.modes.PelMode.{PelMode}
use Rattle.codec.specs.declared.modes.PelMode.TheVariants.{Clamped, Repeated, Subsampled, Forced, Burst, Adaptive}
use Rattle.law.specs.Law.{PelsWithin, Within}
use Rattle.law.proofs.Ranges.{Bounds, Between, chosen_has, zero_within, entered_within, interpolation_within, repetition_within, new_background_within, sum_kept, error_within, coded_within, prepared_within, level_value_lem}

-- the memories of a course lie between the bounds, and it holds as many pels as another
abbrev pub Kept : ℤ → ℤ → ℕ → Course → Type 0
Kept low high held c = Within low high c.signal × (c.tally.held ≡ held)

module _ {low high : ℤ} (bounds : Bounds low high) where
  -- whatever a pel predicts from lies between the bounds
  intraframe_within : (s : Signal) → Within low high s → Between low high (intraframe_at s)
  intraframe_within s w = chosen_has (Between low high) (marks_at s.marks 1).omitted (pel_at s.line 2) (pel_at s.line 1) (w.line 2) (w.line 1)

  around_within : (a : Around) → Between low high a.intraframe → Between low high a.moved → Between low high a.background → Between low high (prediction a)
  around_within a hi hm hb =
      chosen_has (Between low high) (s2 a.marks) a.intraframe (x1 a) hi
      (chosen_has (Between low high) (s1 a.marks) a.background a.moved hb hm)

  pub prediction_within : (m : PelMode) (g : Geometry) (l : LineModes) (b : BlockModes) (p : ℕ) (s : Signal) → Within low high s → Between low high (prediction_as m g l b p s)
  prediction_within Clamped g l b p s w = zero_within bounds
  prediction_within Repeated g l b p s w = zero_within bounds
  prediction_within Subsampled g l b p s w = zero_within bounds
  prediction_within Forced g l b p s w = intraframe_within s w
  prediction_within Burst g l b p s w = w.picture (g.frame - lag g l.above p)
  prediction_within Adaptive g l b p s w =
      around_within (around g l.above b p s) (intraframe_within s w) (w.picture (b.delay - lag g l.above p)) (w.background (g.frame - lag g l.above p))

  -- a worked pel whose sum lies between the bounds lies there, and is no held pel
  abbrev Fine : Worked → Type 0
  Fine x = Between low high x.x × (x.held ≡ false)

  worked_fine : (m : PelMode) (g : Geometry) (l : LineModes) (b : BlockModes) (p : ℕ) (v : ℤ) (s : Signal) → Within low high s
      → Between low high (prediction_as m g l b p s +ℤ v) → Fine (worked_as m g l b p v s)
  worked_fine Clamped g l b p v s w h = (zero_within bounds, refl)
  worked_fine Repeated g l b p v s w h =
      let near = g.near - lag g l.above p in
      let far = g.far - lag g l.above p in
      (repetition_within (pel_is_luminance g p) l.second (pel_at s.picture near) (pel_at s.picture far) (w.picture near) (w.picture far), refl)
  worked_fine Subsampled g l b p v s w h = (zero_within bounds, refl)
  worked_fine Forced g l b p v s w h =
      let kept = sum_kept bounds (intraframe_at s +ℤ v) h in
      (subst (Between low high) (sym kept.0) h, kept.1)
  worked_fine Burst g l b p v s w h =
      let kept = sum_kept bounds (pel_at s.picture (g.frame - lag g l.above p) +ℤ v) h in
      (subst (Between low high) (sym kept.0) h, kept.1)
  worked_fine Adaptive g l b p v s w h =
      let kept = sum_kept bounds (prediction (around g l.above b p s) +ℤ v) h in
      (subst (Between low high) (sym kept.0) h, kept.1)

  settled_within : (g : Geometry) (luminance : Bool) (d : ℕ) (below : ℤ) (line : List ℤ) (marks : List Marks) → PelsWithin low high line → Between low high below
      → Between low high (settled g luminance d below line marks)
  settled_within g luminance d below line marks w h =
      chosen_has (Between low high) (marks_at marks d).omitted
      (interpolation luminance (pel_at line (d + 1)) (pel_at line (d - 1)) (pel_at line (d + g.width)) below) (pel_at line d)
      (interpolation_within luminance (pel_at line (d + 1)) (pel_at line (d - 1)) (pel_at line (d + g.width)) below (w (d + 1)) (w (d - 1)) (w (d + g.width)) h)
      (w d)

  module _ (held : ℕ) where
    enter_y_kept : (g : Geometry) (k : BackgroundControl) (is_forced : Bool) (y : ℤ) (c : Course) → Between low high y → Kept low high held c
        → Kept low high held (enter_y g k is_forced y c)
    enter_y_kept g k is_forced y c hy kept =
        let s = c.signal in
        let w = kept.0 in
        let before = pel_at s.picture g.frame in
        let b = pel_at s.background g.frame in (
          record {
            picture = entered_within bounds y s.picture hy w.picture;
            background = entered_within bounds (new_background is_forced k y before b) s.background (new_background_within is_forced k y before b hy (w.background g.frame)) w.background;
            line = w.line;
          },
          kept.1,
        )

    settle_above_kept : (g : Geometry) (k : BackgroundControl) (above : Above) (p : ℕ) (x : ℤ) (c : Course) → Between low high x → Kept low high held c
        → Kept low high held (settle_above g k above p x c)
    settle_above_kept g k Reset p x c hx kept = kept
    settle_above_kept g k (Pending is_forced) p x c hx kept =
        enter_y_kept g k is_forced (settled g (pel_is_luminance g p) g.width x c.signal.line c.signal.marks) c
        (settled_within g (pel_is_luminance g p) g.width x c.signal.line c.signal.marks kept.0.line hx) kept

    enter_worked_kept : (x : Worked) (c : Course) → Fine x → Kept low high held c → Kept low high held (enter_worked x c)
    enter_worked_kept x c fine kept = (
      record {
        picture = kept.0.picture;
        background = kept.0.background;
        line = entered_within bounds x.x c.signal.line fine.0 kept.0.line;
      },
      ap (λ h. cond h (c.tally.held + 1) c.tally.held) fine.1 ∙ kept.1,
    )

    -- a pel whose prediction and value add up to a pel between the bounds
    pub step_kept : (g : Geometry) (k : BackgroundControl) (l : LineModes) (b : BlockModes) (p : ℕ) (v : ℤ) (c : Course) → Kept low high held c
        → Between low high (prediction_as (pel_mode l b.subsampled p) g l b p c.signal +ℤ v) → Kept low high held (step g k l b p v c)
    step_kept g k l b p v c kept h =
        let x = worked g l b p v c.signal in
        let fine = worked_fine (pel_mode l b.subsampled p) g l b p v c.signal kept.0 h in
        enter_worked_kept x (settle_above g k l.above p x.x c) fine (settle_above_kept g k l.above p x.x c fine.0 kept)

    pub clamped_pels_kept : (g : Geometry) (k : BackgroundControl) (l : LineModes) (c : Course) → Kept low high held c → Kept low high held (clamped_pels g k l c)
    clamped_pels_kept g k l c kept =
        let z = zero_within bounds in
        let c₁ = step g k l burst_modes 1 (pos 0) c in
        let c₂ = step g k l burst_modes 2 (pos 0) c₁ in
        step_kept g k l burst_modes 3 (pos 0) c₂ (step_kept g k l burst_modes 2 (pos 0) c₁ (step_kept g k l burst_modes 1 (pos 0) c kept z) z) z

    flush_kept : (g : Geometry) (k : BackgroundControl) (is_forced : Bool) (d : ℕ) (c : Course) → Kept low high held c → Kept low high held (flush g k is_forced d c)
    flush_kept g k is_forced zero c kept = kept
    flush_kept g k is_forced (suc d) c kept =
        let y = settled g (pel_is_luminance g (g.width - d)) (suc d) (pos 0) c.signal.line c.signal.marks in
        flush_kept g k is_forced d (enter_y g k is_forced y c)
        (enter_y_kept g k is_forced y c (settled_within g (pel_is_luminance g (g.width - d)) (suc d) (pos 0) c.signal.line c.signal.marks kept.0.line (zero_within bounds)) kept)

    pub flushed_kept : (f : Frame) (c : Course) → Kept low high held c → Kept low high held (flushed f c)
    flushed_kept f c = flush_kept (geometry_of f.raster) (control_of f.header) f.forced (width f.raster) c

  pub resets_within : (n : ℕ) (s : Signal) → Within low high s → Within low high (resets n s)
  resets_within zero s w = w
  resets_within (suc n) s w =
      let z = zero_within bounds in
      resets_within n (with_reset s)
      (record {
        picture = entered_within bounds (pos 0) s.picture z w.picture;
        background = entered_within bounds (pos 0) s.background z w.background;
        line = entered_within bounds (pos 0) s.line z w.line;
      })

  pub between_fields_kept : (held : ℕ) (f : Frame) (c : Course) → Kept low high held c → Kept low high held (between_fields f c)
  between_fields_kept held f c kept =
      let e = flushed_kept held f c kept in
      chosen_has (Kept low high held) (eqb f.done f.raster.block_lines)
      (course (resets (6 * width f.raster) (flushed f c).signal) (flushed f c).tally) c
      (resets_within (6 * width f.raster) (flushed f c).signal e.0, e.1) kept

-- the pels of a coder under a lawful characteristic
module _ {top shortfall : ℕ} {number values : ℤ → ℤ} (law : Lawful top shortfall number values) where
  module _ {low high : ℤ} (bounds : Bounds low high) where
    -- the level of a pel is within the top
    pub level_within : (stop : Bool) (m : PelMode) (p z : ℤ) → Between low high p → Between (negsuc 123) (pos 123) z → nat_abs (level_for number stop m p z) ≤ top
    level_within stop m p z hp hz =
        chosen_has (λ n. nat_abs n ≤ top) (is_coded m && not stop) (number (z -ℤ p)) (pos 0)
        (law.number_in_range (z -ℤ p) (error_within bounds p z hp hz)) (omega arith)

    -- and its byte says it
    pub level_said : (stop : Bool) (m : PelMode) (p z : ℤ) → Between low high p → Between (negsuc 123) (pos 123) z
        → level_value top values (byte (level_for number stop m p z)) ≡ values (level_for number stop m p z)
    level_said stop m p z hp hz = level_value_lem top values (level_for number stop m p z) law.top_most (level_within stop m p z hp hz)

    -- prediction and value add up to a pel between the bounds
    pub level_sums : (stop : Bool) (m : PelMode) (p z : ℤ) → Between low high p → Between (negsuc 123) (pos 123) z
        → Between low high (p +ℤ level_value top values (byte (level_for number stop m p z)))
    level_sums stop m p z hp hz =
        let none : values (pos 0) ≡ pos 0 = value_zero law in
        rw (level_said stop m p z hp hz)
        (chosen_has (λ n. Between low high (p +ℤ values n)) (is_coded m && not stop) (number (z -ℤ p)) (pos 0)
        (coded_within bounds law p z hp hz) (rw none (omega (arith, ints), omega (arith, ints))))

    module _ (held : ℕ) (stop : Bool) (g : Geometry) (k : BackgroundControl) (l : LineModes) (blocks : List BlockModes) where
      pub code_pels_kept : (p : ℕ) (zs : List ℤ) (c : Course) → Kept low high held c
          → Kept low high held (code_pels number stop g k l blocks (level_value top values) p zs c).after
      unfolding code_pels
      code_pels_kept p [] c kept = kept
      code_pels_kept p (z ∷ zs) c kept =
          let b = block_at blocks p in
          let m = pel_mode l b.subsampled p in
          let v = level_value top values (level_at number stop g l b p z c.signal) in
          code_pels_kept (p + 1) zs (step g k l b p v c)
          (step_kept bounds held g k l b p v c kept
          (level_sums stop m (prediction_as m g l b p c.signal) (prepared g p z) (prediction_within bounds m g l b p c.signal kept.0) (prepared_within g p z)))

      pub code_line_kept : (zs : List ℤ) (c : Course) → Kept low high held c
          → Kept low high held (code_line number stop g k l blocks (level_value top values) zs c).after
      code_line_kept zs c kept = code_pels_kept 4 (drop 3 zs) (clamped_pels g k l c) (clamped_pels_kept bounds held g k l c kept)

module _ (tops shortfalls : Characteristic → ℕ) (values numbers : Characteristic → ℤ → ℤ) (law : (q : Characteristic) → Lawful (tops q) (shortfalls q) (numbers q) (values q)) where
  module _ {low high : ℤ} (bounds : Bounds low high) where
    pub code_lines_kept : (held : ℕ) (r : Raster) (h : Header) (second : Bool) (above : Above) (front : List ℕ) (stop : Bool) (picture : List ℤ) (line count : ℕ) (c : Course)
        → Kept low high held c → Kept low high held (code_lines tops values numbers r h second above front stop picture line count c).after
    unfolding code_lines
    code_lines_kept held r h second above front stop picture line zero c kept = kept
    code_lines_kept held r h second above front stop picture line (suc count) c kept =
        let g = geometry_of r in
        let head = head_in front in
        let q = chosen head.qc1 head.qc2 in
        let l = line_modes h head second above line in
        let blocks = blocks_of g r h.sbc front in
        let zs = picture_line r picture line in
        code_lines_kept held r h second above front stop picture (line + 1) count
        (code_line (numbers q) stop g (control_of h) l blocks (record_value tops values front) zs c).after
        (code_line_kept (law q) bounds held stop g (control_of h) l blocks zs c kept)

    -- a block-line and a finish keep the memories between the bounds, and count no held pel
    pub coded_lines_within : (f : Frame) (front : List ℕ) (stop : Bool) (picture : List ℤ) (s : Signal) → Within low high s
        → Within low high (coded_lines tops values numbers f front stop picture s).after.signal
        × ((coded_lines tops values numbers f front stop picture s).after.tally.held ≡ f.tally.held)
    coded_lines_within f front stop picture s w =
        code_lines_kept f.tally.held f.raster f.header (leb f.raster.block_lines f.done) (above_next f)
        (front_written f.raster stop front) stop picture 1 8 (between_fields f (course s f.tally))
        (between_fields_kept bounds f.tally.held f (course s f.tally) (w, refl))

pub flushed_within : {low high : ℤ} → Bounds low high → (f : Frame) (s : Signal) → Within low high s
    → Within low high (flushed f (course s f.tally)).signal × ((flushed f (course s f.tally)).tally.held ≡ f.tally.held)
flushed_within bounds f s w = flushed_kept bounds f.tally.held f (course s f.tally) (w, refl)
