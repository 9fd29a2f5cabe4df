-- Two signals that agree as far as a pel sees, worked alike, agree afterwards, one pel further for each that entered.
use Rattle.std.proofs.Common.{◌≡◌, ℕ, zero, suc, ◌+◌, ◌-◌, ◌*◌, ◌≤◌, Bool, true, false, cond, ◌⊎◌, List, [], ◌∷◌, length, ℤ, pos, Some, unwrap_or, sym, refl, ap, ◌∙◌, inl, inr, ⊎_elim, arith}
use lib.Bits.{bit_xor}
use Rattle.std.proofs.lemmas.Nat.{mul-le}
use Rattle.std.proofs.lemmas.Bool.{true≢false, false≢true}
use Rattle.delay.specs.Delay.{look, entered}
use Rattle.delay.proofs.Laws.{look_newest, look_older}
use Rattle.format.specs.Raster.{lines, width, frame, picture_reach, line_reach, mark_reach}
use Rattle.format.specs.declared.raster.Raster.{Raster}
use Rattle.format.proofs.RasterLaws.{width_least, frame_is, picture_reach_is, line_reach_is, mark_reach_is}
use Rattle.prediction.specs.Rules.{intraframe, interpolation, repetition, adaptive, forced, burst, uncoded, new_background, byte}
use Rattle.prediction.specs.declared.marks.BackgroundControl.{BackgroundControl}
use Rattle.prediction.specs.declared.marks.Worked.{Worked}
use Rattle.codec.specs.Block.{geometry_of}
use Rattle.codec.specs.Line.{burst_modes, block_at, pels, clamped_pels, line_work, flush, resets}
use Rattle.codec.specs.Modes.{pel_mode, pel_is_luminance, lag}
use Rattle.codec.specs.Signal.{Signal, pel_at, marks_at, no_marks, with_reset}
use Rattle.codec.specs.Step.{Course, course, intraframe_at, worked_as, worked, settled, enter_y, settle_above, enter_worked, step}
use Rattle.codec.specs.declared.modes.Above.{Above}
use Rattle.codec.specs.declared.modes.Above.TheVariants.{Reset, Pending}
use Rattle.codec.specs.declared.modes.BlockModes.{BlockModes}
use Rattle.codec.specs.declared.modes.LineModes.{LineModes}
use Rattle.codec.specs.declared.modes.PelMode.{PelMode}
use Rattle.codec.specs.declared.modes.PelMode.TheVariants.{Clamped, Repeated, Subsampled, Forced, Burst, Adaptive}
use Rattle.law.proofs.Lengths.{lengths_reach, lengths_reset, lengths_resets, lengths_enter_y, lengths_enter_worked}
use Rattle.law.proofs.Through.{Reach, Agree}

-- how many pels enter picture and background while so many of a line are worked
abbrev pub gained : Above → ℕ → ℕ
gained Reset n = 0
gained (Pending f) n = n

gained_none : (above : Above) → gained above 0 ≡ 0
gained_none Reset = refl
gained_none (Pending f) = refl

gained_sum : (above : Above) (m n : ℕ) → gained above (m + n) ≡ gained above m + gained above n
gained_sum Reset m n = refl
gained_sum (Pending f) m n = refl

gained_more : (above : Above) (n : ℕ) → gained above (suc n) ≡ gained above 1 + gained above n
gained_more Reset n = refl
gained_more (Pending f) n = omega arith

-- MODES. A pel of a forced line that is not repeated sees neither picture nor background
abbrev pub Blind : LineModes → Type 0
Blind l = (l.forced ≡ true) × (l.repeated ≡ false)

-- modes that read neither need nothing seen
abbrev Needs : PelMode → Type 0 → Type 0
Needs Clamped S = Unit {0}
Needs Repeated S = S
Needs Subsampled S = Unit {0}
Needs Forced S = Unit {0}
Needs Burst S = S
Needs Adaptive S = S

-- the mode of a pel of a forced line that is not repeated
blind_mode : (P : PelMode → Type 0) (clamp again thin force early : Bool) → force ≡ true → again ≡ false → P Clamped → P Subsampled → P Forced
    → P (cond clamp Clamped (cond again Repeated (cond thin Subsampled (cond force Forced (cond early Burst Adaptive)))))
blind_mode P true again thin force early f n x y z = x
blind_mode P false true thin force early f n x y z = absurd (true≢false n)
blind_mode P false false true force early f n x y z = y
blind_mode P false false false true early f n x y z = z
blind_mode P false false false false early f n x y z = absurd (false≢true f)

seen : (mode : PelMode) {S : Type 0} → S → Needs mode S
seen Clamped h = tt
seen Repeated h = h
seen Subsampled h = tt
seen Forced h = tt
seen Burst h = h
seen Adaptive h = h

-- a new background: forced, it is Y; otherwise what it was made of is read a frame back
ground_same : (is_forced : Bool) (k : BackgroundControl) (y z before before' b b' : ℤ) → y ≡ z
    → (is_forced ≡ true) ⊎ ((before ≡ before') × (b ≡ b')) → new_background is_forced k y before b ≡ new_background is_forced k z before' b'
ground_same true k y z before before' b b' e h = e
ground_same false k y z before before' b b' e (inl h) = absurd (false≢true h)
ground_same false k y z before before' b b' e (inr h) = λ i. new_background false k (e i) (h.0 i) (h.1 i)

-- ENTRIES. Where the same enters two memories that agree up to m back, they agree up to m + 1 back, within what both reach.
module _ {X : Type 0} (e : X) where
  abbrev at : List X → ℕ → X
  at xs n = unwrap_or (look xs n) e

  entered_same : (m b : ℕ) (x y : X) (xs ys : List X) → x ≡ y → b ≤ length xs → b ≤ length ys
      → ((n : ℕ) → n ≤ m → n ≤ b → at xs n ≡ at ys n)
      → (n : ℕ) → n ≤ m + 1 → n ≤ b → at (entered x xs) n ≡ at (entered y ys) n
  entered_same m b x y xs ys eq hx hy same zero p q = refl
  entered_same m b x y xs ys eq hx hy same (suc zero) p q =
      ap (λ o. unwrap_or o e) (look_newest x xs (omega arith) ∙ ap Some eq ∙ sym (look_newest y ys (omega arith)))
  entered_same m b x y xs ys eq hx hy same (suc (suc k)) p q =
      let next : suc (suc k) ≡ suc k + 1 = omega arith in
      ap (at (entered x xs)) next
      ∙ ap (λ o. unwrap_or o e) (look_older x xs (suc k) (omega arith) (omega arith))
      ∙ same (suc k) (omega arith) (omega arith)
      ∙ sym (ap (λ o. unwrap_or o e) (look_older y ys (suc k) (omega arith) (omega arith)))
      ∙ sym (ap (at (entered y ys)) next)

module _ (r : Raster) where
  pub agree_less : {a b : ℕ} {s t : Signal} → b ≤ a → Agree r a s t → Agree r b s t
  agree_less h e =
      record {
        picture = λ n p q. e.picture n (omega arith) q;
        background = λ n p q. e.background n (omega arith) q;
        line = e.line;
        marks = e.marks;
      }

  -- RESETS. Picture and background agree up to a back, and line and mark memory up to b back.
  record Since (a b : ℕ) (s t : Signal) : Type 0 where
    picture : (n : ℕ) → n ≤ a → n ≤ picture_reach r → pel_at s.picture n ≡ pel_at t.picture n
    background : (n : ℕ) → n ≤ a → n ≤ picture_reach r → pel_at s.background n ≡ pel_at t.background n
    line : (n : ℕ) → n ≤ b → n ≤ line_reach r → pel_at s.line n ≡ pel_at t.line n
    marks : (n : ℕ) → n ≤ b → n ≤ mark_reach r → marks_at s.marks n ≡ marks_at t.marks n

  since_reset : (a b : ℕ) (s t : Signal) → Reach r s → Reach r t → Since a b s t → Since (a + 1) (b + 1) (with_reset s) (with_reset t)
  since_reset a b s t hs ht e =
      record {
        picture = entered_same (pos 0) a (picture_reach r) (pos 0) (pos 0) s.picture t.picture refl hs.picture ht.picture e.picture;
        background = entered_same (pos 0) a (picture_reach r) (pos 0) (pos 0) s.background t.background refl hs.background ht.background e.background;
        line = entered_same (pos 0) b (line_reach r) (pos 0) (pos 0) s.line t.line refl hs.line ht.line e.line;
        marks = entered_same no_marks b (mark_reach r) no_marks no_marks s.marks t.marks refl hs.marks ht.marks e.marks;
      }

  since_less : {a b c d : ℕ} {s t : Signal} → c ≤ a → d ≤ b → Since a b s t → Since c d s t
  since_less h k e =
      record {
        picture = λ n p q. e.picture n (omega arith) q;
        background = λ n p q. e.background n (omega arith) q;
        line = λ n p q. e.line n (omega arith) q;
        marks = λ n p q. e.marks n (omega arith) q;
      }

  since_resets : (n a b : ℕ) (s t : Signal) → Reach r s → Reach r t → Since a b s t → Since (a + n) (b + n) (resets n s) (resets n t)
  since_resets zero a b s t hs ht e = since_less (omega arith) (omega arith) e
  since_resets (suc n) a b s t hs ht e =
      since_less (omega arith) (omega arith)
      (since_resets n (a + 1) (b + 1) (with_reset s) (with_reset t) (lengths_reach r (lengths_reset s) hs) (lengths_reach r (lengths_reset t) ht)
      (since_reset a b s t hs ht e))

  since_none : (s t : Signal) → Since 0 0 s t
  since_none s t =
      record {
        picture = λ n p q. none (pos 0) s.picture t.picture n p;
        background = λ n p q. none (pos 0) s.background t.background n p;
        line = λ n p q. none (pos 0) s.line t.line n p;
        marks = λ n p q. none no_marks s.marks t.marks n p;
      }
    where
      none : {X : Type 0} (e : X) (xs ys : List X) (n : ℕ) → n ≤ 0 → unwrap_or (look xs n) e ≡ unwrap_or (look ys n) e
      none e xs ys zero h = refl
      none e xs ys (suc n) h = absurd (omega arith)

  since_agree : (a b : ℕ) (s t : Signal) → Agree r a s t → Since a b s t
  since_agree a b s t e = record { picture = e.picture; background = e.background; line = λ n p q. e.line n q; marks = λ n p q. e.marks n q }

  agree_since : (a b : ℕ) (s t : Signal) → 2 * width r ≤ b → Since a b s t → Agree r a s t
  agree_since a b s t h e =
      let w = width_least r in
      record {
        picture = e.picture;
        background = e.background;
        line = λ n q. e.line n (omega (arith, line_reach_is r)) q;
        marks = λ n q. e.marks n (omega (arith, mark_reach_is r)) q;
      }

  -- reset pels add to what agrees
  pub agree_resets : (n : ℕ) {a : ℕ} {s t : Signal} → Reach r s → Reach r t → Agree r a s t → Agree r (a + n) (resets n s) (resets n t)
  agree_resets n {a} {s} {t} hs ht e =
      let b = 2 * width r in
      agree_since (a + n) (b + n) (resets n s) (resets n t) (omega arith) (since_resets n a b s t hs ht (since_agree a b s t e))

  -- two lines of them make any signals agree
  pub agree_after_resets : (n : ℕ) (s t : Signal) → 2 * width r ≤ n → Reach r s → Reach r t → Agree r n (resets n s) (resets n t)
  agree_after_resets n s t h hs ht =
      agree_less (omega arith) (agree_since (0 + n) (0 + n) (resets n s) (resets n t) (omega arith) (since_resets n 0 0 s t hs ht (since_none s t)))

  -- COURSES. Two courses whose signals agree and reach, and that counted the same.
  pub record Alike (a : ℕ) (c d : Course) : Type 0 where
    pub signal : Agree r a c.signal d.signal
    pub tally : c.tally ≡ d.tally
    pub left : Reach r c.signal
    pub right : Reach r d.signal

  pub alike_less : {a b : ℕ} {c d : Course} → b ≤ a → Alike a c d → Alike b c d
  alike_less h e = record { signal = agree_less h e.signal; tally = e.tally; left = e.left; right = e.right }

  -- reset pels are not counted
  pub resets_alike : (n : ℕ) {a : ℕ} {c d : Course} → Alike a c d → Alike (a + n) (course (resets n c.signal) c.tally) (course (resets n d.signal) d.tally)
  resets_alike n {a} {c} {d} g =
      record {
        signal = agree_resets n g.left g.right g.signal;
        tally = g.tally;
        left = lengths_reach r (lengths_resets n c.signal) g.left;
        right = lengths_reach r (lengths_resets n d.signal) g.right;
      }

  -- what a frame back reads, where a frame agrees
  frame_read : {a : ℕ} {s t : Signal} (n : ℕ) → Agree r a s t → frame r ≤ a → n ≤ frame r
      → (pel_at s.picture n ≡ pel_at t.picture n) × (pel_at s.background n ≡ pel_at t.background n)
  frame_read n e h k =
      let reach = picture_reach_is r in
      (e.picture n (omega arith) (omega arith), e.background n (omega arith) (omega arith))

  -- I is the same
  intraframe_same : {a : ℕ} {s t : Signal} → Agree r a s t → intraframe_at s ≡ intraframe_at t
  intraframe_same e =
      let w = width_least r in
      let reach = line_reach_is r in
      let one = e.line 1 (omega arith) in
      let two = e.line 2 (omega arith) in
      let mark = e.marks 1 (omega (arith, mark_reach_is r)) in
      λ i. intraframe (one i) (two i) (mark i)

  -- Y of a pending pel is the same
  settled_same : {a : ℕ} {s t : Signal} (luminance : Bool) (d : ℕ) (x y : ℤ) → d ≤ width r → x ≡ y → Agree r a s t
      → settled (geometry_of r) luminance d x s.line s.marks ≡ settled (geometry_of r) luminance d y t.line t.marks
  settled_same luminance d x y h e g =
      let w = width_least r in
      let reach = line_reach_is r in
      let mark = g.marks d (omega (arith, mark_reach_is r)) in
      let after = g.line (d + 1) (omega arith) in
      let before = g.line (d - 1) (omega arith) in
      let above = g.line (d + width r) (omega arith) in
      let here = g.line d (omega arith) in
      λ i. cond (mark i).omitted (interpolation luminance (after i) (before i) (above i) (e i)) (here i)

  -- WHAT A PEL SEES of picture and background, above being what stands above its line
  pub record Sees (a : ℕ) (above : Above) (delay p : ℕ) : Type 0 where
    pub frame : frame r ≤ a
    pub moved : delay - lag (geometry_of r) above p ≤ a
    pub within : delay - lag (geometry_of r) above p ≤ picture_reach r

  near_least : (6 + 8 * r.block_lines) * width r ≤ frame r
  near_least = rw frame_is (mul-le (6 + 8 * r.block_lines) (width r) (lines r) (width r) (omega arith) (omega arith))

  far_least_lem : (7 + 8 * r.block_lines) * width r ≤ frame r
  far_least_lem = rw frame_is (mul-le (7 + 8 * r.block_lines) (width r) (lines r) (width r) (omega arith) (omega arith))

  worked_as_same : {a : ℕ} {s t : Signal} (mode : PelMode) (l : LineModes) (b : BlockModes) (p : ℕ) (v : ℤ)
      → Needs mode (Sees a l.above b.delay p) → Agree r a s t → worked_as mode (geometry_of r) l b p v s ≡ worked_as mode (geometry_of r) l b p v t
  worked_as_same Clamped l b p v h e = refl
  worked_as_same Repeated l b p v h e =
      let g = geometry_of r in
      let back = lag g l.above p in
      let near = (frame_read (g.near - back) e h.frame (omega (arith, near_least))).0 in
      let far = (frame_read (g.far - back) e h.frame (omega (arith, far_least_lem))).0 in
      λ i. uncoded (repetition (pel_is_luminance g p) l.second (near i) (far i))
  worked_as_same Subsampled l b p v h e = refl
  worked_as_same Forced l b p v h e = ap (λ z. forced z v) (intraframe_same e)
  worked_as_same Burst l b p v h e = ap (λ z. burst z v) (frame_read (frame r - lag (geometry_of r) l.above p) e h.frame (omega arith)).0
  worked_as_same Adaptive l b p v h e =
      let g = geometry_of r in
      let w = width_least r in
      let reach = mark_reach_is r in
      let back = lag g l.above p in
      let intra = intraframe_same e in
      let moved = e.picture (b.delay - back) h.moved h.within in
      let ground = (frame_read (frame r - back) e h.frame (omega arith)).1 in
      let before = e.marks 1 (omega arith) in
      let second = e.marks 2 (omega arith) in
      let right = e.marks (width r - 1) (omega arith) in
      let above = e.marks (width r) (omega arith) in
      let left = e.marks (width r + 1) (omega arith) in
      λ i.
      adaptive
      (record {
        intraframe = intra i;
        moved = moved i;
        background = ground i;
        marks = record { before = before i; second = second i; right = right i; above = above i; left = left i };
      }) v

  pub worked_same : {a : ℕ} {s t : Signal} (l : LineModes) (b : BlockModes) (p : ℕ) (v : ℤ)
      → Blind l ⊎ Sees a l.above b.delay p → Agree r a s t → worked (geometry_of r) l b p v s ≡ worked (geometry_of r) l b p v t
  worked_same {a} l b p v (inl h) e =
      worked_as_same (pel_mode l b.subsampled p) l b p v (blind_mode (λ m. Needs m (Sees a l.above b.delay p)) _ l.repeated _ l.forced _ h.0 h.1 tt tt tt) e
  worked_same l b p v (inr h) e = worked_as_same (pel_mode l b.subsampled p) l b p v (seen (pel_mode l b.subsampled p) h) e

  -- ENTRIES OF A COURSE. A pending line enters, a forced one or one whose background is seen
  abbrev pub Enters : ℕ → Above → Type 0
  Enters a Reset = Unit {0}
  Enters a (Pending is_forced) = (is_forced ≡ true) ⊎ (frame r ≤ a)

  pub enters_more : (above : Above) (a b : ℕ) → a ≤ b → Enters a above → Enters b above
  enters_more Reset a b h e = tt
  enters_more (Pending f) a b h e = ⊎_elim inl (λ (q : frame r ≤ a). let more : frame r ≤ b = omega arith in inr more) e

  -- what a pel sees it sees where more agrees
  sees_more : {B : Type 0} {above : Above} {delay p : ℕ} (a b : ℕ) → a ≤ b → B ⊎ Sees a above delay p → B ⊎ Sees b above delay p
  sees_more a b h (inl e) = inl e
  sees_more a b h (inr e) = inr (record { frame = omega (arith, e.frame); moved = omega (arith, e.moved); within = e.within })

  module _ (k : BackgroundControl) where
    enter_y_alike : {a : ℕ} {c d : Course} (is_forced : Bool) (y z : ℤ) → y ≡ z → (is_forced ≡ true) ⊎ (frame r ≤ a) → Alike a c d
        → Alike (a + 1) (enter_y (geometry_of r) k is_forced y c) (enter_y (geometry_of r) k is_forced z d)
    enter_y_alike {a} {c} {d} is_forced y z e h g =
        let F = frame r in
        let s = c.signal in
        let t = d.signal in
        let ground =
        ground_same is_forced k y z (pel_at s.picture F) (pel_at t.picture F) (pel_at s.background F) (pel_at t.background F) e
        (⊎_elim inl (λ (q : F ≤ a). inr (frame_read F g.signal q (omega arith))) h) in
        record {
          signal =
              record {
                picture = entered_same (pos 0) a (picture_reach r) y z s.picture t.picture e g.left.picture g.right.picture g.signal.picture;
                background = entered_same (pos 0) a (picture_reach r) _ _ s.background t.background ground g.left.background g.right.background g.signal.background;
                line = g.signal.line;
                marks = g.signal.marks;
              };
          tally = λ i. record { planes = bit_xor (g.tally i).planes (byte (e i)); held = (g.tally i).held };
          left = lengths_reach r (lengths_enter_y (geometry_of r) k is_forced y c) g.left;
          right = lengths_reach r (lengths_enter_y (geometry_of r) k is_forced z d) g.right;
        }

    settle_alike : {a : ℕ} {c d : Course} (above : Above) (p : ℕ) (x y : ℤ) → x ≡ y → Enters a above → Alike a c d
        → Alike (a + gained above 1) (settle_above (geometry_of r) k above p x c) (settle_above (geometry_of r) k above p y d)
    settle_alike Reset p x y e h g = alike_less (omega arith) g
    settle_alike (Pending f) p x y e h g =
        enter_y_alike f _ _ (settled_same (pel_is_luminance (geometry_of r) p) (width r) x y (omega arith) e g.signal) h g

    enter_worked_alike : {a : ℕ} {c d : Course} (x y : Worked) → x ≡ y → Alike a c d → Alike a (enter_worked x c) (enter_worked y d)
    enter_worked_alike {a} {c} {d} x y e g =
        let s = c.signal in
        let t = d.signal in
        let b = line_reach r in
        let m = mark_reach r in
        record {
          signal =
              record {
                picture = g.signal.picture;
                background = g.signal.background;
                line = λ n h.
                    entered_same (pos 0) b b x.x y.x s.line t.line (ap (λ (u : Worked). u.x) e) g.left.line g.right.line
                    (λ i _ j. g.signal.line i j) n (omega arith) h;
                marks = λ n h.
                    entered_same no_marks m m x.marks y.marks s.marks t.marks (ap (λ (u : Worked). u.marks) e) g.left.marks g.right.marks
                    (λ i _ j. g.signal.marks i j) n (omega arith) h;
              };
          tally = λ i. record { planes = (g.tally i).planes; held = cond (e i).held ((g.tally i).held + 1) (g.tally i).held };
          left = lengths_reach r (lengths_enter_worked (geometry_of r) k x c) g.left;
          right = lengths_reach r (lengths_enter_worked (geometry_of r) k y d) g.right;
        }

    -- A PEL. Where it reads the same, one pel more agrees if the line above is pending.
    step_alike : {a : ℕ} {c d : Course} (l : LineModes) (b : BlockModes) (p : ℕ) (v : ℤ)
        → worked (geometry_of r) l b p v c.signal ≡ worked (geometry_of r) l b p v d.signal → Enters a l.above → Alike a c d
        → Alike (a + gained l.above 1) (step (geometry_of r) k l b p v c) (step (geometry_of r) k l b p v d)
    step_alike l b p v e h g =
        enter_worked_alike _ _ e (settle_alike l.above p _ _ (ap (λ (u : Worked). u.x) e) h g)

    -- the last d pels of a pending line
    pub flush_alike : (is_forced : Bool) (n : ℕ) {a : ℕ} {c d : Course} → n ≤ width r → (is_forced ≡ true) ⊎ (frame r ≤ a) → Alike a c d
        → Alike (a + n) (flush (geometry_of r) k is_forced n c) (flush (geometry_of r) k is_forced n d)
    flush_alike is_forced zero h e g = alike_less (omega arith) g
    flush_alike is_forced (suc n) {a} h e g =
        alike_less (omega arith)
        (flush_alike is_forced n (omega arith) (enters_more (Pending is_forced) a (a + 1) (omega arith) e)
        (enter_y_alike is_forced _ _ (settled_same (pel_is_luminance (geometry_of r) (width r - n)) (suc n) (pos 0) (pos 0) h refl g.signal) e g))

    module _ (l : LineModes) where
      clamped_alike : {a : ℕ} {c d : Course} → Enters a l.above → Alike a c d
          → Alike (a + gained l.above 3) (clamped_pels (geometry_of r) k l c) (clamped_pels (geometry_of r) k l d)
      clamped_alike {a} h g =
          let m = gained l.above 1 in
          let more = gained_more l.above in
          let first = step_alike l burst_modes 1 (pos 0) refl h g in
          let second = step_alike l burst_modes 2 (pos 0) refl (enters_more l.above a (a + m) (omega arith) h) first in
          let third = step_alike l burst_modes 3 (pos 0) refl (enters_more l.above a (a + m + m) (omega arith) h) second in
          alike_less (omega (arith, more 1, more 2)) third

      module _ (blocks : List BlockModes) (value : ℕ → ℤ) where
        pels-alike : (p : ℕ) (xs : List ℕ) {a : ℕ} {c d : Course}
            → ((q : ℕ) → p ≤ q → Blind l ⊎ Sees a l.above (block_at blocks q).delay q) → Enters a l.above → Alike a c d
            → Alike (a + gained l.above (length xs)) (pels (geometry_of r) k l blocks value p xs c) (pels (geometry_of r) k l blocks value p xs d)
        pels-alike p [] h e g = alike_less (omega (arith, gained_none l.above)) g
        pels-alike p (x ∷ xs) {a} h e g =
            let b = block_at blocks p in
            let m = gained l.above 1 in
            let here = step_alike l b p (value x) (worked_same l b p (value x) (h p (omega arith)) g.signal) e g in
            alike_less (omega (arith, gained_more l.above (length xs)))
            (pels-alike (p + 1) xs (λ q j. sees_more a (a + m) (omega arith) (h q (omega arith))) (enters_more l.above a (a + m) (omega arith) e) here)

        -- A LINE
        pub line-alike : {a : ℕ} {c d : Course} (levels : List ℕ)
            → ((q : ℕ) → 4 ≤ q → Blind l ⊎ Sees a l.above (block_at blocks q).delay q) → Enters a l.above → Alike a c d
            → Alike (a + gained l.above (3 + length levels)) (line_work (geometry_of r) k l blocks value levels c) (line_work (geometry_of r) k l blocks value levels d)
        line-alike {a} levels h e g =
            let m = gained l.above 3 in
            alike_less (omega (arith, gained_sum l.above 3 (length levels)))
            (pels-alike 4 levels (λ q j. sees_more a (a + m) (omega arith) (h q j)) (enters_more l.above a (a + m) (omega arith) e) (clamped_alike e g))
