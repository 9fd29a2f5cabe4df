-- The lines of a block-line, coded and written one after another.
use Rattle.std.proofs.Common.{◌≡◌, ℕ, suc, ◌+◌, ◌-◌, ◌*◌, ◌<◌, ◌≤◌, Bool, List, ◌++◌, length, take, drop, ℤ, Ok, sym, ap, ◌∙◌, suc-mul, arith}
use borrow.Rule.Slice.PartMut.{put_mid, post_of}
use Rattle.std.specs.Result.{result_and}
use Rattle.std.specs.List.{between}
use Rattle.std.proofs.lemmas.Nat.{mul-le}
use Rattle.std.proofs.lemmas.List.{append_assoc, append-nil, length-append, length-drop, length-take-le, take_at, take-append-drop}
use Rattle.std.proofs.lemmas.Slice.{take-put_mid}
use Rattle.format.specs.Front.{front_length}
use Rattle.format.specs.Raster.{width, line_levels, record_length}
use Rattle.format.specs.Record.{head_in}
use Rattle.format.specs.RecordWriting.{count_test, held_after}
use Rattle.format.specs.Usable.{Verdict}
use Rattle.format.specs.declared.header.Header.{Header}
use Rattle.format.specs.declared.raster.Raster.{Raster}
use Rattle.format.specs.declared.words.Head.{Head}
use Rattle.format.proofs.RasterLaws.{record_length_is}
use Rattle.format.proofs.WriteLaws.{count_passes}
use Rattle.quantizer.specs.Choice.{chosen}
use Rattle.quantizer.specs.declared.characteristic.Characteristic.{Characteristic}
use Rattle.codec.specs.Block.{geometry_of, blocks_of, control_of, line_modes}
use Rattle.codec.specs.Coder.{picture_line, code_lines}
use Rattle.codec.specs.Coding.{Coded, coded, code_line}
use Rattle.codec.specs.Line.{level_value}
use Rattle.codec.specs.Step.{Course}
use Rattle.codec.specs.Written.{before}
use Rattle.codec.specs.declared.modes.Above.{Above}
use Rattle.codec.specs.declared.modes.BlockModes.{BlockModes}
use Rattle.codec.specs.declared.modes.Geometry.{Geometry}
use Rattle.codec.proofs.CodedRecords.{head_front, blocks_front, lines_coded, line_coded}
use Rattle.codec.proofs.Lines.{left_before, left_none}

-- the front of bytes that go on behind it
module _ (r : Raster) (bytes : List ℕ) (room : front_length r ≤ length bytes) where
  abbrev n : ℕ
  n = front_length r

  front_long : length (take n bytes) ≡ n
  front_long = length-take-le n bytes room

  pub head_taken : head_in bytes ≡ head_in (take (front_length r) bytes)
  head_taken = ap head_in (sym (take-append-drop n bytes)) ∙ head_front r (take n bytes) (drop n bytes) front_long

  pub blocks_taken : (g : Geometry) (sbc : Bool) → blocks_of g r sbc bytes ≡ blocks_of g r sbc (take (front_length r) bytes)
  blocks_taken g sbc = ap (blocks_of g r sbc) (sym (take-append-drop n bytes)) ∙ blocks_front r (take n bytes) (drop n bytes) front_long g sbc

module _ (tops : Characteristic → ℕ) (values numbers : Characteristic → ℤ → ℤ) (r : Raster) (h : Header) (second : Bool) (above : Above)
    (front : List ℕ) (stop : Bool) (picture : List ℤ) where
  abbrev from : ℕ → ℕ → Course → Coded
  from line count c = lines_coded tops values numbers r h second above front stop picture line count c

  abbrev one : ℕ → Course → Coded
  one line c = line_coded tops values numbers r h second above front stop picture line c

  -- a line under a head, in a geometry and blocks, from its pels
  abbrev pub line_under : Head → Geometry → List BlockModes → ℕ → List ℤ → Course → Coded
  line_under hd g blocks line zs c =
      let q = chosen hd.qc1 hd.qc2 in
      code_line (numbers q) stop g (control_of h) (line_modes h hd second above line) blocks (level_value (tops q) (values q)) zs c

  pub line_same : (hd : Head) (g : Geometry) (blocks : List BlockModes) (line : ℕ) (zs : List ℤ) (c : Course)
      → hd ≡ head_in front → g ≡ geometry_of r → blocks ≡ blocks_of (geometry_of r) r h.sbc front → zs ≡ picture_line r picture line
      → line_under hd g blocks line zs c ≡ one line c
  line_same hd g blocks line zs c eh eg eb ez =
      ap (λ (x : Head). line_under x g blocks line zs c) eh
      ∙ ap (λ (x : Geometry). line_under (head_in front) x blocks line zs c) eg
      ∙ ap (λ (x : List BlockModes). line_under (head_in front) (geometry_of r) x line zs c) eb
      ∙ ap (λ (x : List ℤ). line_under (head_in front) (geometry_of r) (blocks_of (geometry_of r) r h.sbc front) line x c) ez

  -- one line more
  pub coded_more : (i : ℕ) (c c' : Course) (xs xs' here : List ℕ) → i < 8 → xs' ≡ xs ++ here → coded here c' ≡ one (i + 1) c
      → before xs' (from (1 + (i + 1)) (8 - (i + 1)) c') ≡ before xs (from (1 + i) (8 - i) c)
  unfolding code_lines
  coded_more i c c' xs xs' here l written found =
      let at : i + 1 ≡ 1 + i = omega arith in
      let next : 1 + (i + 1) ≡ 1 + i + 1 = omega arith in
      let k = 8 - (i + 1) in
      let line = one (1 + i) c in
      let same : coded here c' ≡ line = found ∙ ap (λ (x : ℕ). one x c) at in
      let levels : here ≡ line.levels = ap (λ (x : Coded). x.levels) same in
      let after : c' ≡ line.after = ap (λ (x : Coded). x.after) same in
      let rest = from (1 + i + 1) k line.after in
      ap (λ (x : ℕ). before xs' (from x k c')) next
      ∙ ap (λ (x : Course). before xs' (from (1 + i + 1) k x)) after
      ∙ ap (λ (x : List ℕ). before x rest) (written ∙ ap (λ (x : List ℕ). xs ++ x) levels)
      ∙ ap (λ (x : List ℕ). coded x rest.after) (append_assoc xs line.levels rest.levels)
      ∙ sym (ap (λ (x : ℕ). before xs (from (1 + i) x c)) (left_before 8 i l))

  -- all of them
  pub coded_all : (i : ℕ) (c : Course) (xs : List ℕ) → 8 ≤ i → coded xs c ≡ before xs (from (1 + i) (8 - i) c)
  unfolding code_lines
  coded_all i c xs l =
      sym (ap (λ (x : ℕ). before xs (from (1 + i) x c)) (left_none 8 i l) ∙ ap (λ (x : List ℕ). coded x c) (append-nil xs))

-- a row of so many, one of eight, ends within them
pub row_within : (i w : ℕ) → i < 8 → i * w + w ≤ 8 * w
row_within i w l = omega (arith, mul-le (suc i) w 8 w (omega arith) (omega arith), suc-mul i w)

-- the pels of a line stand one line after another
pub line_pels : (r : Raster) (picture : List ℤ) (i w : ℕ) → w ≡ width r → between (i * w) (i * w + w) picture ≡ picture_line r picture (i + 1)
line_pels r picture i w e =
    let at : i + 1 - 1 ≡ i = omega arith in
    let next : i + 1 ≡ suc i = omega arith in
    let start : i * w ≡ (i + 1 - 1) * width r = ap (λ (k : ℕ). i * k) e ∙ sym (ap (λ (k : ℕ). k * width r) at) in
    let end : i * w + w ≡ (i + 1) * width r =
    sym (suc-mul i w) ∙ ap (λ (k : ℕ). suc i * k) e ∙ sym (ap (λ (k : ℕ). k * width r) next) in
    ap (λ (k : ℕ). between k (i * w + w) picture) start ∙ ap (λ (k : ℕ). between ((i + 1 - 1) * width r) k picture) end

-- the levels of a line are written behind those of the lines before it
pub line_written : (r : Raster) (buffer here : List ℕ) (i first count : ℕ) → i < 8 → first ≡ front_length r → count ≡ line_levels r
    → length buffer ≡ record_length r → length here ≡ count
    → take (front_length r + (i + 1) * line_levels r) (put_mid (first + i * count) (first + i * count + count - (first + i * count)) buffer here)
    ≡ take (front_length r + i * line_levels r) buffer ++ here
line_written r buffer here i first count l ef ec room long =
    let place = first + i * count in
    let row : i * count ≡ i * line_levels r = ap (λ (k : ℕ). i * k) ec in
    let next : i + 1 ≡ suc i = omega arith in
    let more : (i + 1) * line_levels r ≡ i * line_levels r + line_levels r = ap (λ (k : ℕ). k * line_levels r) next ∙ suc-mul i (line_levels r) in
    let at : place ≡ front_length r + i * line_levels r = omega arith in
    let within = row_within i (line_levels r) l in
    take-put_mid place (place + count - place) buffer here (front_length r + (i + 1) * line_levels r) (omega arith) (omega (arith, record_length_is r))
    ∙ ap (λ (k : ℕ). take k buffer ++ here) at

module _ (tops : Characteristic → ℕ) (values numbers : Characteristic → ℤ → ℤ) (r : Raster) (h : Header) (second : Bool) (above : Above)
    (stop : Bool) (picture : List ℤ) (start : List ℕ) (whole : length start ≡ record_length r) where
  -- a turn of the loop over the lines: what stands in the buffer at its start begins with the front
  pub line_turn : (hd : Head) (g : Geometry) (blocks : List BlockModes) (first count : ℕ)
      → hd ≡ head_in start → g ≡ geometry_of r → blocks ≡ blocks_of (geometry_of r) r h.sbc start → first ≡ front_length r → count ≡ line_levels r
      → (i : ℕ) (c c' : Course) (buffer here : List ℕ) → i < 8 → length buffer ≡ record_length r → length here ≡ count
      → coded here c' ≡ line_under tops values numbers r h second above (take (front_length r) start) stop picture hd g blocks (i + 1)
      (between (i * g.width) (i * g.width + g.width) picture) c
      → before (take (front_length r + (i + 1) * line_levels r) (put_mid (first + i * count) (first + i * count + count - (first + i * count)) buffer here))
      (lines_coded tops values numbers r h second above (take (front_length r) start) stop picture (1 + (i + 1)) (8 - (i + 1)) c')
      ≡ before (take (front_length r + i * line_levels r) buffer)
      (lines_coded tops values numbers r h second above (take (front_length r) start) stop picture (1 + i) (8 - i) c)
  line_turn hd g blocks first count eh eg eb ef ec i c c' buffer here l room long found =
      let front = take (front_length r) start in
      let enough : front_length r ≤ length start = omega (arith, record_length_is r) in
      let wide : g.width ≡ width r = ap (λ (x : Geometry). x.width) eg in
      let zs = between (i * g.width) (i * g.width + g.width) picture in
      coded_more tops values numbers r h second above front stop picture i c c' (take (front_length r + i * line_levels r) buffer)
      (take (front_length r + (i + 1) * line_levels r) (put_mid (first + i * count) (first + i * count + count - (first + i * count)) buffer here)) here l
      (line_written r buffer here i first count l ef ec room long)
      (found ∙ line_same tops values numbers r h second above front stop picture hd g blocks (i + 1) zs c (eh ∙ head_taken r start enough) eg
      (eb ∙ blocks_taken r start enough (geometry_of r) h.sbc) (line_pels r picture i g.width wide))

-- a buffer of a record's length, into whose front another is written
module _ (r : Raster) (buffer : List ℕ) (first : ℕ) (at : first ≡ front_length r) (whole : length buffer ≡ record_length r) where
  pub front_room : length (take (first - 0) buffer) ≡ front_length r
  front_room = length-take-le (first - 0) buffer (omega (arith, record_length_is r)) ∙ omega arith

  module _ (part : List ℕ) (long : length part ≡ front_length r) where
    pub written_long : length (part ++ post_of 0 (first - 0) buffer) ≡ record_length r
    written_long =
        length-append part (post_of 0 (first - 0) buffer) ∙ omega (arith, length-drop (first - 0) buffer, record_length_is r)

    pub written_room : front_length r ≤ length (part ++ post_of 0 (first - 0) buffer)
    written_room = omega (arith, written_long, record_length_is r)

    pub written_front : take (front_length r) (part ++ post_of 0 (first - 0) buffer) ≡ part
    written_front = take_at part (post_of 0 (first - 0) buffer) (front_length r) long

-- a front of the right length in a buffer of the right length passes, and is written
pub front_passed : (r : Raster) (front part written after : List ℕ) (v : Verdict) → length front ≡ front_length r → length part ≡ front_length r
    → v ≡ result_and (count_test (front_length r) (length front)) (count_test (front_length r) (length part)) → after ≡ held_after v written part → after ≡ written
front_passed r front part written after v long room verdict held =
    let passes : v ≡ Ok tt = verdict ∙ ap (λ (x : Verdict). result_and x (count_test (front_length r) (length part))) (count_passes _ _ long) ∙ count_passes _ _ room in
    held ∙ ap (λ (x : Verdict). held_after x written part) passes
