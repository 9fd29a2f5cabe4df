-- The levels that a coder finds: each by itself, from what the memories hold before its pel, and within the top.
use Rattle.std.proofs.Common.{◌≡◌, ℕ, zero, suc, ◌+◌, ◌-◌, ◌<◌, ◌≤◌, Bool, true, false, cond, not, ◌&&◌, List, [], ◌∷◌, length, get_or, take, drop, ℤ, pos, ◌-ℤ◌, nat_abs, sym, refl, ap, ◌∙◌, subst, zero-add, arith}
use Rattle.std.proofs.lemmas.Bool.{and_right, cond-false}
use Rattle.format.specs.Bits.{level_of}
use Rattle.format.specs.Record.{head_in}
use Rattle.format.specs.declared.header.Header.{Header}
use Rattle.format.specs.declared.raster.Raster.{Raster}
use Rattle.prediction.specs.Rules.{byte}
use Rattle.prediction.specs.declared.marks.BackgroundControl.{BackgroundControl}
use Rattle.quantizer.specs.Choice.{chosen}
use Rattle.quantizer.specs.Lawful.{Lawful}
use Rattle.quantizer.specs.declared.characteristic.Characteristic.{Characteristic}
use Rattle.quantizer.proofs.Uses.{value_zero}
use Rattle.codec.specs.Block.{geometry_of, control_of, line_modes, blocks_of, record_value}
use Rattle.codec.specs.Coder.{code_lines, picture_line}
use Rattle.codec.specs.Coding.{prepared, prediction_as, is_coded, level_for, level_at, Coded, code_pels, code_line}
use Rattle.codec.specs.Line.{block_at, pels, clamped_pels, level_value}
use Rattle.codec.specs.Modes.{pel_mode}
use Rattle.codec.specs.Signal.{Signal}
use Rattle.codec.specs.Step.{Course, step}
use Rattle.codec.specs.declared.modes.Above.{Above}
use Rattle.codec.specs.declared.modes.BlockModes.{BlockModes}
use Rattle.codec.specs.declared.modes.Geometry.{Geometry}
use Rattle.codec.specs.declared.modes.LineModes.{LineModes}
use Rattle.codec.specs.declared.modes.PelMode.{PelMode}
use Rattle.codec.proofs.CodedLines.{coded_decodes}
use Rattle.law.specs.Law.{Within}
use Rattle.law.proofs.Ranges.{Bounds, prepared_within, level_back, level_value_lem}
use Rattle.law.proofs.Steps.{Kept, prediction_within, clamped_pels_kept, level_within, code_pels_kept, code_lines_kept}

module _ (number : ℤ → ℤ) (stop : Bool) (g : Geometry) (k : BackgroundControl) (l : LineModes) (blocks : List BlockModes) (value : ℕ → ℤ) where
  abbrev from : ℕ → List ℤ → Course → Coded
  from p zs c = code_pels number stop g k l blocks value p zs c

  -- the levels of the first pels are the first levels
  pub code_prefix : (p : ℕ) (zs : List ℤ) (c : Course) (i : ℕ) → (from p (take i zs) c).levels ≡ take i (from p zs c).levels
  unfolding code_pels
  code_prefix p zs c zero = refl
  code_prefix p [] c (suc i) = refl
  code_prefix p (z ∷ zs) c (suc i) =
      let b = block_at blocks p in
      let x = level_at number stop g l b p z c.signal in
      ap (λ ls. x ∷ ls) (code_prefix (p + 1) zs (step g k l b p (value x) c) i)

  -- a decoder of the first levels goes the way of the coder over the first pels
  pub prefix_decodes : (p : ℕ) (zs : List ℤ) (c : Course) (i : ℕ) → (from p (take i zs) c).after ≡ pels g k l blocks value p (take i (from p zs c).levels) c
  prefix_decodes p zs c i =
      coded_decodes number stop g k l blocks value (take i zs) p c ∙ ap (λ ls. pels g k l blocks value p ls c) (code_prefix p zs c i)

  -- each level is found from what the memories hold after the pels before its own
  pub code_level_at : (p : ℕ) (zs : List ℤ) (c : Course) (i : ℕ) → i < length zs
      → get_or (from p zs c).levels i 0 ≡ level_at number stop g l (block_at blocks (i + p)) (i + p) (get_or zs i (pos 0)) (from p (take i zs) c).after.signal
  unfolding code_pels
  code_level_at p [] c i h = absurd (omega arith)
  code_level_at p (z ∷ zs) c zero h =
      ap (λ n. level_at number stop g l (block_at blocks n) n z c.signal) (sym (zero-add p))
  code_level_at p (z ∷ zs) c (suc i) h =
      let b = block_at blocks p in
      let next = step g k l b p (value (level_at number stop g l b p z c.signal)) c in
      let place : i + (p + 1) ≡ suc i + p = omega arith in
      code_level_at (p + 1) zs next i (omega arith)
      ∙ ap (λ n. level_at number stop g l (block_at blocks n) n (get_or zs i (pos 0)) (from (p + 1) (take i zs) next).after.signal) place

-- a pel that is not coded has the level 0
pub level_none : (number : ℤ → ℤ) (stop : Bool) (m : PelMode) (p z : ℤ) → is_coded m ≡ false → level_for number stop m p z ≡ pos 0
level_none number stop m p z h = ap (λ b. cond (b && not stop) (number (z -ℤ p)) (pos 0)) h

-- and so has every pel under Stop
pub level_stopped : (number : ℤ → ℤ) (m : PelMode) (p z : ℤ) → level_for number true m p z ≡ pos 0
level_stopped number m p z = cond-false (is_coded m && false) (number (z -ℤ p)) (pos 0) (and_right (is_coded m) false refl)

-- the level 0 has the value 0
pub level_zero : {top shortfall : ℕ} {number values : ℤ → ℤ} → Lawful top shortfall number values → level_value top values 0 ≡ pos 0
level_zero {top} {values = values} law = level_value_lem top values (pos 0) law.top_most (omega arith) ∙ value_zero law

-- a level is within the top, and 0 where no pel is coded
pub record LevelFits (top : ℕ) (m : PelMode) (x : ℕ) : Type 0 where
  pub within : nat_abs (level_of x) ≤ top
  pub silent : is_coded m ≡ false → level_of x ≡ pos 0

module _ {top shortfall : ℕ} {number values : ℤ → ℤ} (law : Lawful top shortfall number values) {low high : ℤ} (bounds : Bounds low high) where
  -- at one pel, from what the memories hold before it
  pub level_fits : (stop : Bool) (g : Geometry) (l : LineModes) (b : BlockModes) (p : ℕ) (z : ℤ) (s : Signal) → Within low high s
      → LevelFits top (pel_mode l b.subsampled p) (level_at number stop g l b p z s)
  level_fits stop g l b p z s w =
      let m = pel_mode l b.subsampled p in
      let predicted = prediction_as m g l b p s in
      let n = level_for number stop m predicted (prepared g p z) in
      let most : nat_abs n ≤ top = level_within law bounds stop m predicted (prepared g p z) (prediction_within bounds m g l b p s w) (prepared_within g p z) in
      let small : top ≤ 127 = law.top_most in
      let back : level_of (byte n) ≡ n = level_back n (omega arith) in
      record { within = subst (λ y. nat_abs y ≤ top) (sym back) most; silent = λ h. back ∙ level_none number stop m predicted (prepared g p z) h }

  -- at each pel of a line
  pub line_fits : (held : ℕ) (stop : Bool) (g : Geometry) (k : BackgroundControl) (l : LineModes) (blocks : List BlockModes) (zs : List ℤ) (c : Course)
      → Kept low high held c → (i : ℕ) → i < length (drop 3 zs)
      → LevelFits top (pel_mode l (block_at blocks (i + 4)).subsampled (i + 4)) (get_or (code_line number stop g k l blocks (level_value top values) zs c).levels i 0)
  line_fits held stop g k l blocks zs c kept i h =
      let value = level_value top values in
      let here = clamped_pels g k l c in
      let s = (code_pels number stop g k l blocks value 4 (take i (drop 3 zs)) here).after in
      let b = block_at blocks (i + 4) in
      let so_far = code_pels_kept law bounds held stop g k l blocks 4 (take i (drop 3 zs)) here (clamped_pels_kept bounds held g k l c kept) in
      subst (LevelFits top (pel_mode l b.subsampled (i + 4))) (sym (code_level_at number stop g k l blocks value 4 (drop 3 zs) here i h))
      (level_fits stop g l b (i + 4) (get_or (drop 3 zs) i (pos 0)) s.signal so_far.0)

module _ (tops shortfalls : Characteristic → ℕ) (values numbers : Characteristic → ℤ → ℤ) (law : (q : Characteristic) → Lawful (tops q) (shortfalls q) (numbers q) (values q))
    {low high : ℤ} (bounds : Bounds low high)
    (r : Raster) (h : Header) (second : Bool) (above : Above) (front : List ℕ) (stop : Bool) (picture : List ℤ) where
  -- at each pel of a line of a block-line, coded after the lines before it
  pub line_of_coded : (line : ℕ) (c : Course) → Within low high c.signal → (i : ℕ) → i < length (drop 3 (picture_line r picture line))
      → LevelFits (tops (chosen (head_in front).qc1 (head_in front).qc2))
      (pel_mode (line_modes h (head_in front) second above line) (block_at (blocks_of (geometry_of r) r h.sbc front) (i + 4)).subsampled (i + 4))
      (get_or
      (code_line (numbers (chosen (head_in front).qc1 (head_in front).qc2)) stop (geometry_of r) (control_of h) (line_modes h (head_in front) second above line)
      (blocks_of (geometry_of r) r h.sbc front) (record_value tops values front) (picture_line r picture line)
      (code_lines tops values numbers r h second above front stop picture 1 (line - 1) c).after).levels i 0)
  line_of_coded line c w =
      let before = (code_lines tops values numbers r h second above front stop picture 1 (line - 1) c).after in
      line_fits (law (chosen (head_in front).qc1 (head_in front).qc2)) bounds c.tally.held stop (geometry_of r) (control_of h) (line_modes h (head_in front) second above line)
      (blocks_of (geometry_of r) r h.sbc front) (picture_line r picture line) before
      (code_lines_kept tops shortfalls values numbers law bounds c.tally.held r h second above front stop picture 1 (line - 1) c (w, refl))
