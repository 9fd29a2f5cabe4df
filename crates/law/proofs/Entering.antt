-- What enters the picture in the course of a frame, and what the planes count of it.
use Rattle.std.proofs.Common.{◌≡◌, ℕ, zero, suc, ◌+◌, ◌-◌, ◌*◌, ◌<◌, ◌≤◌, Bool, true, false, cond, eqb, leb, List, [], ◌∷◌, ◌++◌, map, length, get_or, take, drop, ℤ, pos, sym, refl, ap, ◌∙◌, subst, ap₂, ⊎_elim, mul_assoc, suc-mul, add-mul, arith, length-take}
use lib.Bits.{bit_xor, xor_assoc, xor_comm, xor_zero_r}
use Rattle.std.proofs.lemmas.Nat.{mul-le}
use Rattle.std.proofs.lemmas.List.Edits.{length-between}
use Rattle.std.proofs.lemmas.List.{append_assoc, length-append, length-take-le, length-drop, take_all, take-take, take_at, drop_at, drop-take}
use Rattle.std.proofs.lemmas.Bool.{cond-true, cond-false, or_left, or_right, or_from, eq-eqb, ne_eqb, eqb-true, cases_eq}
use Rattle.delay.specs.Delay.{entered}
use Rattle.prediction.specs.Rules.{byte}
use Rattle.prediction.specs.declared.marks.BackgroundControl.{BackgroundControl}
use Rattle.format.specs.Raster.{width, frame, line_levels, record_length}
use Rattle.format.specs.Record.{is_whole, head_in, line_in, line_start}
use Rattle.format.specs.declared.header.Header.{Header}
use Rattle.format.specs.declared.raster.Raster.{Raster}
use Rattle.format.proofs.FrontTests.{whole_from}
use Rattle.format.proofs.RasterLaws.{width_least, frame_is, picture_reach_is, record_length_is}
use Rattle.quantizer.specs.declared.characteristic.Characteristic.{Characteristic}
use Rattle.codec.specs.Block.{geometry_of, control_of, line_is_forced, line_modes, blocks_of, lines_from, block_line_work, record_value}
use Rattle.codec.specs.Decoder.{Frame, block_lines, above_next, between_fields, flushed, next_course, parity_of, top_in}
use Rattle.codec.specs.Line.{block_at, burst_modes, pels, clamped_pels, line_work, flush, resets}
use Rattle.codec.specs.Modes.{pel_is_luminance}
use Rattle.codec.specs.Signal.{Signal, with_reset}
use Rattle.codec.specs.Step.{Course, course, enter_y, settled, settle_above, step, worked as workedPel}
use Rattle.codec.specs.declared.modes.Above.{Above}
use Rattle.codec.specs.declared.modes.Above.TheVariants.{Reset, Pending}
use Rattle.codec.specs.declared.modes.BlockModes.{BlockModes}
use Rattle.codec.specs.declared.modes.Geometry.{Geometry}
use Rattle.codec.specs.declared.modes.LineModes.{LineModes}
use Rattle.law.specs.Law.{Names, IsParity}
use Rattle.law.specs.Runs.{Sent, field_pels, counted_pels}
use Rattle.law.proofs.Planes.{xor_all, planes_of, planes-append, names_odd, parity_even}
use Rattle.law.proofs.Through.{Reach, Hand, hand, onward_by, beginning, worked, ended, header_in, Usable}

-- of a list that begins with others, the first ones need no more of the rest
take_behind : {X : Type 0} (n m : ℕ) (xs ys : List X) → n ≤ m → take n (xs ++ take m ys) ≡ take n (xs ++ ys)
take_behind n m [] ys h = take-take n m ys h
take_behind zero m (x ∷ xs) ys h = refl
take_behind (suc n) m (x ∷ xs) ys h = ap (λ zs. x ∷ zs) (take_behind n m xs ys (omega arith))

-- the rows up to one are those before it and its own
row_more : (k w : ℕ) → 1 ≤ k → k * w ≡ (k - 1) * w + w
row_more zero w h = absurd (omega arith)
row_more (suc k) w h = let e : suc k - 1 ≡ k = omega arith in suc-mul k w ∙ ap (λ n. n * w + w) (sym e)

-- n pels have come first, and as many of the oldest are gone
pub record Pushed (n : ℕ) (p q : List ℤ) : Type 0 where
  pub pels : List ℤ
  pub count : length pels ≡ n
  pub is : q ≡ take (length p) (pels ++ p)

-- and the planes count them
pub record Counted (n : ℕ) (p : List ℤ) (x : ℕ) (q : List ℤ) (y : ℕ) : Type 0 where
  pub pushed : Pushed n p q
  pub planes : y ≡ bit_xor x (planes_of pushed.pels)

pub pushed_length : {n : ℕ} {p q : List ℤ} → Pushed n p q → length q ≡ length p
pushed_length {p = p} e = ap length e.is ∙ length-take (length p) (e.pels ++ p) ∙ omega (arith, length-append e.pels p)

-- the later ones come before the earlier ones
pub pushed_on : {m n : ℕ} {p q s : List ℤ} → Pushed m p q → Pushed n q s → Pushed (m + n) p s
pushed_on {p = p} {q} {s} a b = record {
  pels = b.pels ++ a.pels;
  count = length-append b.pels a.pels ∙ omega (arith, a.count, b.count);
  is =
      b.is
      ∙ ap₂ (λ k xs. take k (b.pels ++ xs)) (pushed_length a) a.is
      ∙ take_behind (length p) (length p) b.pels (a.pels ++ p) (omega arith)
      ∙ ap (take (length p)) (sym (append_assoc b.pels a.pels p));
}

pub counted_on : {m n : ℕ} {p q s : List ℤ} {x y z : ℕ} → Counted m p x q y → Counted n q y s z → Counted (m + n) p x s z
unfolding pushed_on
counted_on {x = x} a b = record {
  pushed = pushed_on a.pushed b.pushed;
  planes =
      let u = planes_of a.pushed.pels in
      let v = planes_of b.pushed.pels in
      b.planes ∙ ap (λ t. bit_xor t v) a.planes ∙ xor_assoc x u v
      ∙ ap (bit_xor x) (xor_comm u v ∙ sym (planes-append b.pushed.pels a.pushed.pels));
}

pub pushed_none : (p : List ℤ) → Pushed 0 p p
pushed_none p = record { pels = []; count = refl; is = sym (take_all (length p) p (omega arith)) }

pub counted_none : (p : List ℤ) (x : ℕ) → Counted 0 p x p x
unfolding pushed_none
counted_none p x = record { pushed = pushed_none p; planes = sym (xor_zero_r x) }

pub counted_one : (y : ℤ) (p : List ℤ) (x : ℕ) → Counted 1 p x (entered y p) (bit_xor x (byte y))
counted_one y p x =
    record { pushed = record { pels = y ∷ []; count = refl; is = refl }; planes = ap (bit_xor x) (sym (xor_zero_r (byte y))) }

counted_many : {m n : ℕ} {p q : List ℤ} {x y : ℕ} → m ≡ n → Counted m p x q y → Counted n p x q y
counted_many {p = p} {q} {x} {y} e c = subst (λ k. Counted k p x q y) e c

pushed_many : {m n : ℕ} {p q : List ℤ} → m ≡ n → Pushed m p q → Pushed n p q
pushed_many {p = p} {q} e c = subst (λ k. Pushed k p q) e c

-- so many pels enter between two moments of a course, and are counted
abbrev pub Enters : ℕ → Course → Course → Type 0
Enters n c d = Counted n c.signal.picture c.tally.planes d.signal.picture d.tally.planes

-- a pel enters for each that is worked, unless a reset line stands above
abbrev pub entering : Above → ℕ → ℕ
entering Reset n = 0
entering (Pending forced) n = n

entering_none : (above : Above) → entering above 0 ≡ 0
entering_none Reset = refl
entering_none (Pending forced) = refl

entering_more : (above : Above) (m n : ℕ) → entering above m + entering above n ≡ entering above (m + n)
entering_more Reset m n = refl
entering_more (Pending forced) m n = refl

module _ (g : Geometry) (k : BackgroundControl) where
  settle_enters : (above : Above) (p : ℕ) (x : ℤ) (c : Course) → Enters (entering above 1) c (settle_above g k above p x c)
  settle_enters Reset p x c = counted_none c.signal.picture c.tally.planes
  settle_enters (Pending forced) p x c =
      counted_one (settled g (pel_is_luminance g p) g.width x c.signal.line c.signal.marks) c.signal.picture c.tally.planes

  flush_enters : (forced : Bool) (d : ℕ) (c : Course) → Enters d c (flush g k forced d c)
  flush_enters forced zero c = counted_none c.signal.picture c.tally.planes
  flush_enters forced (suc d) c =
      let y = settled g (pel_is_luminance g (g.width - d)) (suc d) (pos 0) c.signal.line c.signal.marks in
      counted_many (omega arith)
      (counted_on (counted_one y c.signal.picture c.tally.planes) (flush_enters forced d (enter_y g k forced y c)))

  module _ (l : LineModes) where
    step_enters : (b : BlockModes) (p : ℕ) (v : ℤ) (c : Course) → Enters (entering l.above 1) c (step g k l b p v c)
    step_enters b p v c = settle_enters l.above p (workedPel g l b p v c.signal).x c

    pels_enter : (blocks : List BlockModes) (value : ℕ → ℤ) (p : ℕ) (xs : List ℕ) (c : Course)
        → Enters (entering l.above (length xs)) c (pels g k l blocks value p xs c)
    pels_enter blocks value p [] c = counted_many (sym (entering_none l.above)) (counted_none c.signal.picture c.tally.planes)
    pels_enter blocks value p (x ∷ xs) c =
        let b = block_at blocks p in
        counted_many (entering_more l.above 1 (length xs) ∙ ap (entering l.above) (omega arith))
        (counted_on (step_enters b p (value x) c) (pels_enter blocks value (p + 1) xs (step g k l b p (value x) c)))

    clamped_enter : (c : Course) → Enters (entering l.above 3) c (clamped_pels g k l c)
    clamped_enter c =
        let c1 = step g k l burst_modes 1 (pos 0) c in
        let c2 = step g k l burst_modes 2 (pos 0) c1 in
        let two = counted_on (step_enters burst_modes 1 (pos 0) c) (step_enters burst_modes 2 (pos 0) c1) in
        counted_many (ap (λ n. n + entering l.above 1) (entering_more l.above 1 1) ∙ entering_more l.above 2 1)
        (counted_on two (step_enters burst_modes 3 (pos 0) c2))

    -- a line of as many level bytes as pels that have one
    line_enters : (blocks : List BlockModes) (value : ℕ → ℤ) (levels : List ℕ) (c : Course) → 3 + length levels ≡ g.width
        → Enters (entering l.above g.width) c (line_work g k l blocks value levels c)
    line_enters blocks value levels c e =
        counted_many (entering_more l.above 3 (length levels) ∙ ap (entering l.above) e)
        (counted_on (clamped_enter c) (pels_enter blocks value 4 levels (clamped_pels g k l c)))

resets_push : (n : ℕ) (s : Signal) → Pushed n s.picture (resets n s).picture
resets_push zero s = pushed_none s.picture
resets_push (suc n) s =
    let one = (counted_one (pos 0) s.picture 0).pushed in
    pushed_many (omega arith) (pushed_on one (resets_push n (with_reset s)))

-- a whole record has its levels on each line
line_long : (r : Raster) (bytes : List ℕ) → is_whole r bytes ≡ true → (line : ℕ) → 1 ≤ line → line ≤ 8 → 3 + length (line_in r bytes line) ≡ width r
unfolding line_in
line_long r bytes whole line low high =
    let n = eqb-true (length bytes) (record_length r) whole ∙ record_length_is r in
    let w = width_least r in
    let start = line_start r line in
    let most = mul-le line (line_levels r) 8 (line_levels r) high (omega arith) in
    let row : line * line_levels r ≡ (line - 1) * line_levels r + line_levels r = row_more line (line_levels r) low in
    let long = length-between bytes start (start + line_levels r) (omega arith) in
    omega arith

module _ (r : Raster) (h : Header) (second : Bool) (above : Above) (value : ℕ → ℤ) (bytes : List ℕ) (whole : is_whole r bytes ≡ true) where
  -- the course after one line of the block-line
  line_after : ℕ → Course → Course
  line_after line c =
      let g = geometry_of r in
      line_work g (control_of h) (line_modes h (head_in bytes) second above line) (blocks_of g r h.sbc bytes) value (line_in r bytes line) c

  line_after_enters : (line : ℕ) → 1 ≤ line → line ≤ 8 → (c : Course)
      → Enters (entering (line_modes h (head_in bytes) second above line).above (width r)) c (line_after line c)
  unfolding line_after
  line_after_enters line low high c =
      let g = geometry_of r in
      line_enters g (control_of h) (line_modes h (head_in bytes) second above line) (blocks_of g r h.sbc bytes) value (line_in r bytes line) c
      (line_long r bytes whole line low high)

  -- a pel enters for each pel of the lines from line 2 on
  lines_enter : (line count : ℕ) → 2 ≤ line → line + count ≤ 9 → (c : Course)
      → Enters (count * width r) c (lines_from r h second above value bytes line count c)
  unfolding lines_from line_after
  lines_enter line zero low high c = counted_many (omega arith) (counted_none c.signal.picture c.tally.planes)
  lines_enter line (suc count) low high c =
      let later : eqb line 1 ≡ false = ne_eqb line 1 (omega arith) in
      let here = ap (λ b. entering (cond b above (Pending (line_is_forced h (head_in bytes) (line - 1)))) (width r)) later in
      counted_many (omega (arith, suc-mul count (width r)))
      (counted_on (counted_many here (line_after_enters line (omega arith) (omega arith) c))
      (lines_enter (line + 1) count (omega arith) (omega arith) (line_after line c)))

  -- and on line 1 where no reset line stands above it
  from_first : (count : ℕ) → count ≤ 7 → (c : Course)
      → Enters (entering above (width r) + count * width r) c (lines_from r h second above value bytes 1 (suc count) c)
  unfolding lines_from line_after
  from_first count high c =
      counted_on (line_after_enters 1 (omega arith) (omega arith) c) (lines_enter 2 count (omega arith) (omega arith) (line_after 1 c))

  block_line_enters : (c : Course) → Enters (entering above (width r) + 7 * width r) c (block_line_work r h second above value bytes c)
  unfolding block_line_work
  block_line_enters c = from_first 7 (omega arith) c

-- the pels of a field that have entered once some of its block-lines are done: all but those of the last line
abbrev pub lately : Raster → ℕ → ℕ
lately r done = 8 * done * width r - width r

lately_none : (r : Raster) → 0 ≡ lately r 0
lately_none r = omega arith

lately_first : (r : Raster) → 0 + 7 * width r ≡ lately r 1
lately_first r = omega arith

lately_begun : (r : Raster) (k : ℕ) → k ≡ 0 → lately r k + (0 + 7 * width r) ≡ lately r (k + 1)
lately_begun r zero h = omega arith
lately_begun r (suc k) h = absurd (omega arith)

lately_more : (r : Raster) (k : ℕ) → 1 ≤ k → lately r k + (width r + 7 * width r) ≡ lately r (k + 1)
lately_more r k h =
    let w = width r in
    let a = mul_assoc 8 k w in
    let b = mul_assoc 8 (k + 1) w in
    let d = add-mul k 1 w in
    let some = mul-le 1 w k w h (omega arith) in
    omega arith

lately_all : (r : Raster) (k : ℕ) → 1 ≤ k → lately r k + width r ≡ 8 * k * width r
lately_all r k h =
    let w = width r in
    let a = mul_assoc 8 k w in
    let some = mul-le 1 w k w h (omega arith) in
    omega arith

-- where a frame in hand stands, from the picture p on: in its first field, or in its second, with the first
-- field and the reset lines behind
data Stage (p : List ℤ) (b : Hand) : Type 0 where
  in_first : b.frame.done ≤ b.frame.raster.block_lines
      → Counted (lately b.frame.raster b.frame.done) p 0 b.signal.picture b.frame.tally.planes
      → Stage p b
  in_second : (p1 p2 : List ℤ) (x : ℕ) → b.frame.raster.block_lines < b.frame.done
      → Counted (field_pels b.frame.raster) p 0 p1 x
      → Pushed (6 * width b.frame.raster) p1 p2
      → Counted (lately b.frame.raster (b.frame.done - b.frame.raster.block_lines)) p2 x b.signal.picture b.frame.tally.planes
      → Stage p b

module _ (tops : Characteristic → ℕ) (values : Characteristic → ℤ → ℤ) where
  -- one block-line, with what stands above it and the course that it goes on from
  next_enters : (f : Frame) (bytes : List ℕ) (s : Signal) (above : Above) (c : Course) → is_whole f.raster bytes ≡ true
      → above_next f ≡ above → between_fields f (course s f.tally) ≡ c
      → Enters (entering above (width f.raster) + 7 * width f.raster) c (next_course tops values f bytes s)
  next_enters f bytes s above c whole ea ec =
      let r = f.raster in
      let h = f.header in
      let second = leb r.block_lines f.done in
      let value = record_value tops values bytes in
      let d = between_fields f (course s f.tally) in
      subst (λ u. Enters (entering above (width r) + 7 * width r) u (next_course tops values f bytes s)) ec
      (counted_many (ap (λ u. entering u (width r) + 7 * width r) ea) (block_line_enters r h second (above_next f) value bytes whole d))

  raster_kept : (xs : List (List ℕ)) (b : Hand) → (hand tops values xs b).frame.raster ≡ b.frame.raster
  unfolding onward_by
  raster_kept [] b = refl
  raster_kept (bytes ∷ xs) b = raster_kept xs b

  done_after : (xs : List (List ℕ)) (b : Hand) → (hand tops values xs b).frame.done ≡ b.frame.done + length xs
  unfolding onward_by
  done_after [] b = omega arith
  done_after (bytes ∷ xs) b = let e = done_after xs b in omega arith

  stage_on : (p : List ℤ) (bytes : List ℕ) (b : Hand) → is_whole b.frame.raster bytes ≡ true
      → Stage p b → Stage p (onward_by tops values bytes b)
  unfolding onward_by
  stage_on p bytes b whole (in_first h e) =
      let f = b.frame in
      let r = f.raster in
      let n = r.block_lines in
      let c = course b.signal f.tally in
      ⊎_elim
      (λ (full : f.done ≡ n).
      let last = eq-eqb f.done n full in
      let one : 1 ≡ f.done + 1 - n = omega arith in
      let d = flushed f c in
      let g = geometry_of r in
      let ea : above_next f ≡ Reset = cond-true _ Reset (Pending f.forced) (or_right (eqb f.done 0) _ last) in
      let between = course (resets (6 * width r) d.signal) d.tally in
      let ec : between_fields f c ≡ between = cond-true _ between c last in
      in_second d.signal.picture between.signal.picture d.tally.planes (omega arith)
      (counted_many (lately_all r f.done (omega arith) ∙ ap (λ k. 8 * k * width r) full)
      (counted_on e (flush_enters g (control_of f.header) f.forced (width r) c)))
      (resets_push (6 * width r) d.signal)
      (counted_many (lately_first r ∙ ap (lately r) one) (next_enters f bytes b.signal Reset between whole ea ec)))
      (λ (not_full : f.done ≡ n → ⊥).
      let ec : between_fields f c ≡ c = cond-false _ _ c (ne_eqb f.done n not_full) in
      ⊎_elim
      (λ (none : f.done ≡ 0).
      let ea : above_next f ≡ Reset = cond-true _ Reset (Pending f.forced) (or_left _ (eqb f.done n) (eq-eqb f.done 0 none)) in
      in_first (omega arith) (counted_many (lately_begun r f.done none) (counted_on e (next_enters f bytes b.signal Reset c whole ea ec))))
      (λ (some : f.done ≡ 0 → ⊥).
      let ea : above_next f ≡ Pending f.forced =
      cond-false _ Reset (Pending f.forced) (or_from _ _ (ne_eqb f.done 0 some) (ne_eqb f.done n not_full)) in
      in_first (omega arith)
      (counted_many (lately_more r f.done (omega arith)) (counted_on e (next_enters f bytes b.signal (Pending f.forced) c whole ea ec))))
      (cases_eq f.done 0))
      (cases_eq f.done n)
  stage_on p bytes b whole (in_second p1 p2 x h e1 e2 e3) =
      let f = b.frame in
      let r = f.raster in
      let n = r.block_lines in
      let c = course b.signal f.tally in
      let not_full = ne_eqb f.done n (omega arith) in
      let ec : between_fields f c ≡ c = cond-false _ _ c not_full in
      let ea : above_next f ≡ Pending f.forced =
      cond-false _ Reset (Pending f.forced) (or_from _ _ (ne_eqb f.done 0 (omega arith)) not_full) in
      let next : f.done - n + 1 ≡ f.done + 1 - n = omega arith in
      in_second p1 p2 x (omega arith) e1 e2
      (counted_many (lately_more r (f.done - n) (omega arith) ∙ ap (lately r) next)
      (counted_on e3 (next_enters f bytes b.signal (Pending f.forced) c whole ea ec)))

  stage_all : (p : List ℤ) (b : Hand) → Stage p b → (xs : List (List ℕ))
      → ((i : ℕ) → i < length xs → is_whole b.frame.raster (get_or xs i []) ≡ true) → Stage p (hand tops values xs b)
  stage_all p b e [] each = e
  stage_all p b e (bytes ∷ xs) each =
      let older = hand tops values xs b in
      stage_on p bytes older (ap (λ r. is_whole r bytes) (raster_kept xs b) ∙ each 0 (omega arith))
      (stage_all p b e xs (λ i h. each (suc i) (omega arith)))

-- the parts of a picture that begins with a part, another one, and one as long as the first
parts_of : {X : Type 0} (a b c d : List X) (n m l : ℕ) (q : List X) → length a ≡ n → length b ≡ m → length c ≡ n → n + m + n ≤ l
    → q ≡ take l ((a ++ (b ++ c)) ++ d) → take n q ++ take n (drop (n + m) q) ≡ a ++ c
parts_of a b c d n m l q la lb lc room e =
    let all = (a ++ (b ++ c)) ++ d in
    let left = l - (n + m) in
    let split : l ≡ n + m + left = omega arith in
    let front : all ≡ a ++ ((b ++ c) ++ d) = append_assoc a (b ++ c) d in
    let back : all ≡ (a ++ b) ++ (c ++ d) = simp append_assoc in
    let second : length (a ++ b) ≡ n + m = length-append a b ∙ ap₂ ◌+◌ la lb in
    ap₂ ◌++◌
    (ap (take n) e ∙ take-take n l all (omega arith) ∙ ap (take n) front ∙ take_at a ((b ++ c) ++ d) n la)
    (ap (λ u. take n (drop (n + m) u)) (e ∙ ap (λ k. take k all) split)
    ∙ ap (take n) (drop-take (n + m) left all)
    ∙ take-take n left (drop (n + m) all) (omega arith)
    ∙ ap (λ u. take n (drop (n + m) u)) back
    ∙ ap (take n) (drop_at (a ++ b) (c ++ d) (n + m) second)
    ∙ take_at c d n lc)

-- both fields and the reset lines between them are not more than a frame
fields_within : (r : Raster) → field_pels r + 6 * width r + field_pels r ≤ frame r
fields_within r =
    let n = r.block_lines in
    let w = width r in
    let a = mul_assoc 8 n w in
    let b = mul_assoc 16 n w in
    let d = add-mul 13 (16 * n) w in
    omega (arith, frame_is r)

-- the counted pels are those of two fields
pub counted-length : (r : Raster) (xs : List ℤ) → frame r ≤ length xs → length (counted_pels r xs) ≡ 16 * r.block_lines * width r
counted-length r xs h =
    let n = field_pels r in
    let m = n + 6 * width r in
    let within = fields_within r in
    let rest = length-drop m xs in
    let first = length-take-le n xs (omega arith) in
    let second = length-take-le n (drop m xs) (omega arith) in
    let both = length-append (take n xs) (take n (drop m xs)) in
    omega (arith, mul_assoc 8 r.block_lines (width r), mul_assoc 16 r.block_lines (width r))

-- a frame's way from the picture p on: a field, reset lines, and a field
pub record Fields (r : Raster) (p q : List ℤ) (y : ℕ) : Type 0 where
  pub middle : List ℤ
  pub reset : List ℤ
  pub half : ℕ
  pub earlier : Counted (field_pels r) p 0 middle half
  pub between : Pushed (6 * width r) middle reset
  pub later : Counted (field_pels r) reset half q y

module _ (r : Raster) (p q : List ℤ) (y : ℕ) (e : Fields r p q y) where
  fields_pushed : Pushed (field_pels r + 6 * width r + field_pels r) p q
  fields_pushed = pushed_on (pushed_on e.earlier.pushed e.between) e.later.pushed

  fields_length : length q ≡ length p
  fields_length = pushed_length fields_pushed

  -- the planes are those of the counted pels
  fields_planes : frame r ≤ length p → y ≡ planes_of (counted_pels r q)
  unfolding fields_pushed pushed_on
  fields_planes room =
      let a = e.later.pushed.pels in
      let b = e.between.pels in
      let c = e.earlier.pushed.pels in
      let within = fields_within r in
      let same = parts_of a b c p (field_pels r) (6 * width r) (length p) q
      e.later.pushed.count e.between.count e.earlier.pushed.count (omega arith) fields_pushed.is in
      e.later.planes ∙ ap (λ u. bit_xor u (planes_of a)) e.earlier.planes ∙ xor_comm (planes_of c) (planes_of a)
      ∙ sym (planes-append a c) ∙ ap planes_of (sym same)

-- the end of a frame whose block-lines are all done
stage_ended : (p : List ℤ) (b : Hand) → b.frame.done ≡ block_lines b.frame.raster → Stage p b
    → let d = flushed b.frame (course b.signal b.frame.tally) in Fields b.frame.raster p d.signal.picture d.tally.planes
stage_ended p b all (in_first h e) = let r = b.frame.raster in absurd (omega arith)
stage_ended p b all (in_second p1 p2 x h e1 e2 e3) =
    let f = b.frame in
    let r = f.raster in
    let n = r.block_lines in
    let c = course b.signal f.tally in
    let field : f.done - n ≡ n = omega arith in
    record {
      middle = p1;
      reset = p2;
      half = x;
      earlier = e1;
      between = e2;
      later =
          counted_many (lately_all r (f.done - n) (omega arith) ∙ ap (λ k. 8 * k * width r) field)
          (counted_on e3 (flush_enters (geometry_of r) (control_of f.header) f.forced (width r) c));
    }

-- the records of a usable frame have their length
pub records_whole : (tops : Characteristic → ℕ) (values : Characteristic → ℤ → ℤ) (r : Raster) (sent : Sent) → Usable tops values r sent
    → (i : ℕ) → i < length sent.records → is_whole r (get_or sent.records i []) ≡ true
records_whole tops values r sent u i h =
    let bytes = get_or sent.records i [] in
    whole_from r (header_in sent.header).sbc (top_in tops bytes) bytes (u.each i h)

-- a frame worked to its end, from records of their length
module _ (tops : Characteristic → ℕ) (values : Characteristic → ℤ → ℤ) (r : Raster) (sent : Sent) (s : Signal)
    (full : length sent.records ≡ block_lines r)
    (whole : (i : ℕ) → i < length sent.records → is_whole r (get_or sent.records i []) ≡ true) where
  -- two fields with reset lines between them
  ended_fields : let d = ended tops values r sent s in Fields r (resets (7 * width r) s).picture d.signal.picture d.tally.planes
  unfolding ended worked
  ended_fields =
      let begin = beginning tops values r sent s in
      let p = begin.signal.picture in
      let b = hand tops values sent.records begin in
      let none = counted_many (lately_none r) (counted_none p 0) in
      let same = raster_kept tops values sent.records begin in
      let done = done_after tops values sent.records begin in
      let all : b.frame.done ≡ block_lines r = omega arith in
      let stage = stage_all tops values p begin (in_first (omega arith) none) sent.records whole in
      let d = flushed b.frame (course b.signal b.frame.tally) in
      subst (λ u. Fields u p d.signal.picture d.tally.planes) same
      (stage_ended p b (all ∙ ap block_lines (sym same)) stage)

  -- its picture is as long as it was
  pub ended_length : length (ended tops values r sent s).signal.picture ≡ length s.picture
  ended_length =
      let d = ended tops values r sent s in
      fields_length r (resets (7 * width r) s).picture d.signal.picture d.tally.planes ended_fields ∙ pushed_length (resets_push (7 * width r) s)

  -- and its planes are the exclusive or of its counted pels
  pub counted_planes : Reach r s → (ended tops values r sent s).tally.planes ≡ xor_all (map byte (counted_pels r (ended tops values r sent s).signal.picture))
  counted_planes reach =
      let d = ended tops values r sent s in
      let long = pushed_length (resets_push (7 * width r) s) in
      fields_planes r (resets (7 * width r) s).picture d.signal.picture d.tally.planes ended_fields (omega (arith, picture_reach_is r))

-- Two ends that worked the same usable frame: their parities name exactly the planes in which an odd number of
-- its counted pels differ between them.
pub parities_name : (tops : Characteristic → ℕ) (values : Characteristic → ℤ → ℤ) (r : Raster) (sent : Sent) (s t : Signal)
    → Usable tops values r sent → Reach r s → Reach r t
    → let c = ended tops values r sent s in
    let d = ended tops values r sent t in
    Names (bit_xor (parity_of c.tally) (parity_of d.tally)) (counted_pels r c.signal.picture) (counted_pels r d.signal.picture)
parities_name tops values r sent s t u reach-s reach-t =
    let whole = records_whole tops values r sent u in
    let c = ended tops values r sent s in
    let d = ended tops values r sent t in
    let ys = counted_pels r c.signal.picture in
    let zs = counted_pels r d.signal.picture in
    let long-s = ended_length tops values r sent s u.full whole in
    let long-t = ended_length tops values r sent t u.full whole in
    let reach = picture_reach_is r in
    let same = counted-length r c.signal.picture (omega arith) ∙ sym (counted-length r d.signal.picture (omega arith)) in
    rw (counted_planes tops values r sent s u.full whole reach-s, counted_planes tops values r sent t u.full whole reach-t)
    (names_odd ys zs same)

-- The parity of a usable frame has a 1 exactly for the planes in which its counted pels hold an even number of ones.
pub parity_counts : (tops : Characteristic → ℕ) (values : Characteristic → ℤ → ℤ) (r : Raster) (sent : Sent) (s : Signal)
    → Usable tops values r sent → Reach r s
    → let c = ended tops values r sent s in IsParity (parity_of c.tally) (counted_pels r c.signal.picture)
parity_counts tops values r sent s u reach =
    rw (counted_planes tops values r sent s u.full (records_whole tops values r sent u) reach)
    (parity_even (counted_pels r (ended tops values r sent s).signal.picture))
