-- The lines of a block-line, worked one after another.
use Rattle.std.proofs.Common.{◌≡◌, ℕ, suc, ◌+◌, ◌-◌, ◌<◌, ◌≤◌, Bool, List, length, ℤ, sym, ap, ◌∙◌, arith, length-take}
use Rattle.format.proofs.RasterLaws.{width_most}
use Rattle.format.specs.Record.{head_in, line_in}
use Rattle.format.specs.declared.header.Header.{Header}
use Rattle.format.specs.declared.raster.Raster.{Raster}
use Rattle.format.specs.declared.words.Head.{Head}
use Rattle.quantizer.specs.declared.characteristic.Characteristic.{Characteristic}
use Rattle.codec.specs.Block.{geometry_of, blocks_of, control_of, line_modes, lines_from, block_line_work}
use Rattle.codec.specs.Line.{line_work, level_value}
use Rattle.codec.specs.Step.{Course}
use Rattle.codec.specs.Work.{IsOver}
use Rattle.prediction.specs.declared.marks.BackgroundControl.{BackgroundControl}
use Rattle.codec.specs.declared.modes.Above.{Above}
use Rattle.codec.specs.declared.modes.BlockLine.{BlockLine}
use Rattle.codec.specs.declared.modes.BlockModes.{BlockModes}
use Rattle.codec.specs.declared.modes.Geometry.{Geometry}
use Rattle.codec.specs.declared.modes.LineModes.{LineModes}
use Rattle.codec.proofs.Lines.{left_before, left_none}

-- a line has at most as many levels as the widest raster's
pub line_short : (r : Raster) (bytes : List ℕ) (line : ℕ) → length (line_in r bytes line) ≤ 452
unfolding line_in
line_short r bytes line = simp length-take (omega (arith, width_most r))

pub line_same : (g : Geometry) (k k' : BackgroundControl) (l l' : LineModes) (blocks : List BlockModes)
    (tops : Characteristic → ℕ) (values : Characteristic → ℤ → ℤ) (q q' : Characteristic) (xs xs' : List ℕ) (c : Course)
    → k ≡ k' → l ≡ l' → q ≡ q' → xs ≡ xs'
    → line_work g k l blocks (level_value (tops q) (values q)) xs c ≡ line_work g k' l' blocks (level_value (tops q') (values q')) xs' c
line_same g k k' l l' blocks tops values q q' xs xs' c ek el eq ex =
    ap (λ z. line_work g z l blocks (level_value (tops q) (values q)) xs c) ek
    ∙ ap (λ z. line_work g k' z blocks (level_value (tops q) (values q)) xs c) el
    ∙ ap (λ z. line_work g k' l' blocks (level_value (tops z) (values z)) xs c) eq
    ∙ ap (λ z. line_work g k' l' blocks (level_value (tops q') (values q')) z c) ex

module _ (r : Raster) (h : Header) (second : Bool) (above : Above) (value : ℕ → ℤ) (bytes : List ℕ) where
  abbrev pub line_at : Geometry → List BlockModes → ℕ → Course → Course
  line_at g blocks line c = line_work g (control_of h) (line_modes h (head_in bytes) second above line) blocks value (line_in r bytes line) c

  -- one line more
  pub lines_more : (i : ℕ) (c c' : Course) (g : Geometry) (blocks : List BlockModes) → i < 8 → g ≡ geometry_of r → blocks ≡ blocks_of g r h.sbc bytes
      → c' ≡ line_at g blocks (i + 1) c
      → lines_from r h second above value bytes (1 + (i + 1)) (8 - (i + 1)) c' ≡ lines_from r h second above value bytes (1 + i) (8 - i) c
  unfolding lines_from
  lines_more i c c' g blocks l eg eb ec =
      let here : i + 1 ≡ 1 + i = omega arith in
      let next : 1 + (i + 1) ≡ 1 + i + 1 = omega arith in
      let same : blocks ≡ blocks_of (geometry_of r) r h.sbc bytes = eb ∙ ap (λ z. blocks_of z r h.sbc bytes) eg in
      let worked : c' ≡ line_at (geometry_of r) (blocks_of (geometry_of r) r h.sbc bytes) (1 + i) c =
      ec ∙ ap (λ z. line_at z blocks (i + 1) c) eg ∙ ap (λ z. line_at (geometry_of r) z (i + 1) c) same
      ∙ ap (λ z. line_at (geometry_of r) (blocks_of (geometry_of r) r h.sbc bytes) z c) here in
      ap (λ z. lines_from r h second above value bytes z (8 - (i + 1)) c') next
      ∙ ap (lines_from r h second above value bytes (1 + i + 1) (8 - (i + 1))) worked
      ∙ sym (ap (λ z. lines_from r h second above value bytes (1 + i) z c) (left_before 8 i l))

  -- all of them
  pub lines_all : (i : ℕ) (c d : Course) → 8 ≤ i → lines_from r h second above value bytes (1 + i) (8 - i) c ≡ lines_from r h second above value bytes 1 8 d
      → c ≡ block_line_work r h second above value bytes d
  unfolding lines_from block_line_work
  lines_all i c d l e = sym (ap (λ z. lines_from r h second above value bytes (1 + i) z c) (left_none 8 i l)) ∙ e

module _ {S : Type 0} (b : BlockLine S) (bytes : List ℕ) (over : IsOver bytes b) (value : Head → ℕ → ℤ) where
  -- a line of the block-line in work
  abbrev pub line_in_work : ℕ → Course → Course
  line_in_work p c = line_work b.frame.g b.frame.control (line_modes b.header b.head b.second b.above p) b.blocks (value b.head) (line_in b.raster bytes p) c

  -- as its record has it
  line_is : (p : ℕ) (c : Course)
      → line_in_work p c
      ≡ line_work (geometry_of b.raster) (control_of b.header) (line_modes b.header (head_in bytes) b.second b.above p)
      (blocks_of (geometry_of b.raster) b.raster b.header.sbc bytes) (value (head_in bytes)) (line_in b.raster bytes p) c
  line_is p c =
      let work : Geometry → BackgroundControl → Head → List BlockModes → Course =
      λ g k h blocks. line_work g k (line_modes b.header h b.second b.above p) blocks (value h) (line_in b.raster bytes p) c in
      ap (λ (g : Geometry). work g b.frame.control b.head b.blocks) over.lengths
      ∙ ap (λ (k : BackgroundControl). work (geometry_of b.raster) k b.head b.blocks) over.control
      ∙ ap (λ (h : Head). work (geometry_of b.raster) (control_of b.header) h b.blocks) over.head
      ∙ ap (λ (blocks : List BlockModes). work (geometry_of b.raster) (control_of b.header) (head_in bytes) blocks) over.blocks

  abbrev pub left : ℕ → Course → Course
  left p c = lines_from b.raster b.header b.second b.above (value (head_in bytes)) bytes p (9 - p) c

  -- one line more
  pub left_more : (p : ℕ) (c c' : Course) → p ≤ 8 → c' ≡ line_in_work p c → left (p + 1) c' ≡ left p c
  unfolding lines_from
  left_more p c c' l ec =
      let count : 9 - p ≡ suc (9 - (p + 1)) = omega arith in
      let from = lines_from b.raster b.header b.second b.above (value (head_in bytes)) bytes in
      ap (from (p + 1) (9 - (p + 1))) (ec ∙ line_is p c) ∙ sym (ap (λ (n : ℕ). from p n c) count)

  -- all of them
  pub left_all : (p : ℕ) (c : Course) → 8 < p → c ≡ left p c
  unfolding lines_from
  left_all p c l =
      let none : 9 - p ≡ 0 = omega arith in
      sym (ap (λ (n : ℕ). lines_from b.raster b.header b.second b.above (value (head_in bytes)) bytes p n c) none)
