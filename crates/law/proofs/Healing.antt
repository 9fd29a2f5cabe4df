-- Frames worked over two signals: they keep what agrees, a wholly refreshed one makes them agree, and one
-- after it extends that to all that is ever read.
use Rattle.std.proofs.Common.{◌≡◌, ℕ, zero, suc, ◌+◌, ◌-◌, ◌*◌, ◌/◌, ◌<◌, ◌≤◌, Bool, true, false, cond, not, ◌&&◌, ◌||◌, eqb, leb, ◌⊎◌, List, [], ◌∷◌, length, get_or, ℤ, Ok, Err, sym, refl, ap, ◌∙◌, inl, inr, ⊎_elim, add-mul, arith}
use Rattle.std.proofs.lemmas.Nat.{mul-le}
use Rattle.std.proofs.lemmas.Bool.{false≢true, eqb-true, eq-eqb, cases_Bool}
use Rattle.std.proofs.lemmas.Bool.Decides.{nat_tests}
use Rattle.format.specs.Modes.{repeated, forced_pair}
use Rattle.format.specs.Raster.{lines, width, frame, picture_reach, record_length}
use Rattle.format.specs.Reader.{verdict}
use Rattle.format.specs.Record.{head_in, length_fits}
use Rattle.format.specs.Sound.{Sound}
use Rattle.format.specs.Usable.{Verdict, usable}
use Rattle.format.specs.declared.header.Header.{Header}
use Rattle.format.specs.declared.raster.Raster.{Raster}
use Rattle.format.specs.declared.refusal.Refusal.{Refusal}
use Rattle.format.proofs.InOrder.{both_pass}
use Rattle.format.proofs.RasterLaws.{width_least, frame_is, frame_least, picture_reach_is}
use Rattle.format.proofs.SoundLaws.{sound}
use Rattle.quantizer.specs.declared.characteristic.Characteristic.{Characteristic}
use Rattle.codec.specs.Block.{control_of, line_is_forced, record_value}
use Rattle.codec.specs.Decoder.{Frame, block_lines, above_next, flushed, next_course, top_in}
use Rattle.codec.specs.Line.{resets}
use Rattle.codec.specs.Signal.{Signal}
use Rattle.codec.specs.Step.{Course, course}
use Rattle.codec.specs.declared.modes.Above.TheVariants.{Reset, Pending}
use Rattle.codec.specs.declared.modes.Tally.{Tally}
use Rattle.law.specs.Law.{WhollyRefreshed, ReachesAbove, first_record}
use Rattle.law.specs.Runs.{Sent}
use Rattle.law.proofs.Agreement.{gained, Enters, Alike, enters_more, alike_less, resets_alike, agree_less, agree_resets, agree_after_resets, flush_alike}
use Rattle.law.proofs.BlockAgreement.{Clear, clear_more, block_line_alike}
use Rattle.law.proofs.Courses.{forced_after, frame_after, no_tally, course_after, ended_is}
use Rattle.law.proofs.Delays.{delay_of, StaysBelow, delay_within, delay_below}
use Rattle.law.proofs.Lengths.{lengths_reach, lengths_resets}
use Rattle.law.proofs.Through.{Reach, Agree, header_in, ended, Usable}

-- how many lines have entered picture and background after so many block-lines of a frame, n in each field
abbrev level : ℕ → ℕ → ℕ
level n zero = 7
level n (suc m) = cond (leb (suc m) n) (8 * m + 14) (8 * m + 20)

level_next : (n m : ℕ) → 1 ≤ n → level n (suc m) ≤ level n m + cond (eqb m n) 7 0 + cond (eqb m 0 || eqb m n) 0 1 + 7
level_next n zero h = grind (arith, nat_tests)
level_next n (suc m) h = grind (arith, nat_tests)

level_last : (n : ℕ) → 1 ≤ n → 13 + 16 * n ≤ level n (2 * n) + 1
level_last n h =
    let last : 2 * n ≡ suc (2 * n - 1) = omega arith in
    rw last (grind (arith, nat_tests))

level_first : (n m : ℕ) → 7 ≤ level n m
level_first n zero = omega arith
level_first n (suc m) = grind (arith, nat_tests)

level_later : (n m : ℕ) → 14 ≤ level n (suc m)
level_later n m = grind (arith, nat_tests)

-- the same in pels
level_pels : (first second : Bool) (f : Bool) (w l m : ℕ) → m ≤ l + cond second 7 0 + cond (first || second) 0 1 + 7
    → m * w ≤ l * w + cond second (7 * w) 0 + gained (cond (first || second) Reset (Pending f)) w + 7 * w
level_pels true true f w l m h = omega (arith, mul-le m w (l + 14) w (omega arith) (omega arith), add-mul l 14 w)
level_pels true false f w l m h = omega (arith, mul-le m w (l + 7) w (omega arith) (omega arith), add-mul l 7 w)
level_pels false true f w l m h = omega (arith, mul-le m w (l + 14) w (omega arith) (omega arith), add-mul l 14 w)
level_pels false false f w l m h = omega (arith, mul-le m w (l + 8) w (omega arith) (omega arith), add-mul l 8 w)

-- a verdict that passes: the record is whole and sound
whole : (b : Bool) (why : Refusal) → ◌≡◌ {A = Verdict} (cond b (Ok tt) (Err why)) (Ok tt) → b ≡ true
whole true why e = refl
whole false why e = let z : ◌≡◌ {A = ℕ} 0 1 = cc in absurd (omega arith)

passed : (r : Raster) (sbc : Bool) (top : ℕ) (bytes : List ℕ) → verdict r sbc top bytes ≡ Ok tt → (length bytes ≡ record_length r) × Sound r sbc top bytes
passed r sbc top bytes e =
    let both = both_pass (length_fits r bytes) (usable r sbc top bytes) e in
    (eqb-true (length bytes) (record_length r) (whole _ _ both.0), sound r sbc top bytes both.1)

module _ (tops : Characteristic → ℕ) (values : Characteristic → ℤ → ℤ) (r : Raster) where
  -- A BLOCK-LINE of a frame, with what comes before it
  module _ (h : Header) (done : ℕ) (forced : Bool) where
    abbrev at : Tally → Frame
    at t = record { raster = r; header = h; done = done; forced = forced; tally = t }

    -- before the second field
    between_alike : {a : ℕ} {c d : Course} (t u : Tally) (here : Bool) → (here ≡ true → Enters r a (Pending forced)) → Alike r a c d
        → Alike r (a + cond here (7 * width r) 0)
        (cond here (course (resets (6 * width r) (flushed (at t) c).signal) (flushed (at t) c).tally) c)
        (cond here (course (resets (6 * width r) (flushed (at u) d).signal) (flushed (at u) d).tally) d)
    between_alike t u true e g =
        alike_less r (omega arith) (resets_alike r (6 * width r) (flush_alike r (control_of h) forced (width r) (omega arith) (e refl) g))
    between_alike t u false e g = alike_less r (omega arith) g

    next_alike : {a : ℕ} {c d : Course} (bytes : List ℕ) → length bytes ≡ record_length r
        → (eqb done r.block_lines ≡ true → Enters r a (Pending forced)) → Clear r a h bytes (above_next (at no_tally)) → Alike r a c d
        → Alike r (a + cond (eqb done r.block_lines) (7 * width r) 0 + gained (above_next (at no_tally)) (width r) + 7 * width r)
        (next_course tops values (at c.tally) bytes c.signal) (next_course tops values (at d.tally) bytes d.signal)
    next_alike {a} {c} {d} bytes long e clear g =
        let n = r.block_lines in
        block_line_alike r h (leb n done) (above_next (at no_tally)) (record_value tops values bytes) bytes long
        (clear_more r a (a + cond (eqb done n) (7 * width r) 0) (omega arith) clear)
        (between_alike c.tally d.tally (eqb done n) e g)

  -- A FRAME. Each record may be worked where so much agrees as has entered since the opening, on top of a.
  abbrev Passes : ℕ → Header → List (List ℕ) → Type 0
  Passes a h [] = Unit {0}
  Passes a h (bytes ∷ older) =
      Passes a h older × (length bytes ≡ record_length r)
      × (eqb (length older) r.block_lines ≡ true → Enters r (a + level r.block_lines (length older) * width r) (Pending (forced_after h older)))
      × Clear r (a + level r.block_lines (length older) * width r) h bytes (above_next (frame_after r h older no_tally))

  records_alike : (a : ℕ) (h : Header) (records : List (List ℕ)) {c d : Course} → Passes a h records → Alike r (a + 7 * width r) c d
      → Alike r (a + level r.block_lines (length records) * width r) (course_after tops values r h records c) (course_after tops values r h records d)
  records_alike a h [] e g = g
  records_alike a h (bytes ∷ older) e g =
      let n = r.block_lines in
      let m = length older in
      let f = forced_after h older in
      alike_less r (omega (arith, level_pels (eqb m 0) (eqb m n) f (width r) (level n m) (level n (suc m)) (level_next n m (omega arith))))
      (next_alike h m f bytes e.1 e.2 e.3 (records_alike a h older e.0 g))

  ended_alike : (a : ℕ) (sent : Sent) (s t : Signal) → length sent.records ≡ block_lines r
      → Passes a (header_in sent.header) sent.records
      → Enters r a (Pending (forced_after (header_in sent.header) sent.records))
      → Alike r (a + 7 * width r) (course (resets (7 * width r) s) no_tally) (course (resets (7 * width r) t) no_tally)
      → Alike r (a + frame r) (ended tops values r sent s) (ended tops values r sent t)
  ended_alike a sent s t full e last g =
      let n = r.block_lines in
      let w = width r in
      let h = header_in sent.header in
      let m = level n (length sent.records) in
      let enough : lines r ≤ m + 1 = omega (arith, level_last n (omega arith), ap (level n) full) in
      let pels = mul-le (lines r) w (m + 1) w enough (omega arith) in
      rw (ended_is tops values r sent s, ended_is tops values r sent t)
      (alike_less r (omega (arith, pels, add-mul m 1 w, frame_is r))
      (flush_alike r (control_of h) (forced_after h sent.records) w (omega arith)
      (enters_more r (Pending (forced_after h sent.records)) a (a + m * w) (omega arith) last) (records_alike a h sent.records e g)))

  -- the records of a frame pass the decoder's tests
  abbrev Accepted : Header → List ℕ → Type 0
  Accepted h bytes = verdict r h.sbc (top_in tops bytes) bytes ≡ Ok tt

  -- A REFRESHED FRAME passes whatever agrees.
  above_enters : (a : ℕ) (first second f : Bool) → (first ≡ true) ⊎ (f ≡ true) → Enters r a (cond (first || second) Reset (Pending f))
  above_enters a true second f e = tt
  above_enters a false true f e = tt
  above_enters a false false f (inl e) = absurd (false≢true e)
  above_enters a false false f (inr e) = inl e

  fresh_passes : (a : ℕ) (h : Header) → h.drm ≡ false → (records : List (List ℕ))
      → ((i : ℕ) → i < length records → Accepted h (get_or records i []))
      → ((i : ℕ) → i < length records → (head_in (get_or records i [])).ifm ≡ false)
      → Passes a h records × ((length records ≡ 0) ⊎ (forced_after h records ≡ true))
  fresh_passes a h all [] each off = (tt, inl refl)
  fresh_passes a h all (bytes ∷ older) each off =
      let n = r.block_lines in
      let m = length older in
      let f = forced_after h older in
      let before = fresh_passes a h all older (λ i l. each (suc i) (omega arith)) (λ i l. off (suc i) (omega arith)) in
      let here = passed r h.sbc (top_in tops bytes) bytes (each 0 (omega arith)) in
      let ifm = off 0 (omega arith) in
      let forced : (line : ℕ) → line_is_forced h (head_in bytes) line ≡ true =
      λ line. λ i. not (ifm i) && (not (all i) || eqb ((line + 1) / 2) (forced_pair h.crm1 h.crm2)) in
      let coded : repeated (head_in bytes) ≡ false =
      ⊎_elim (λ (e : repeated (head_in bytes) ≡ true). absurd (false≢true (sym ifm ∙ here.1.unforced e))) (λ (e : repeated (head_in bytes) ≡ false). e) (cases_Bool (repeated (head_in bytes))) in
      let started : (eqb m 0 ≡ true) ⊎ (f ≡ true) = ⊎_elim (λ (e : m ≡ 0). inl (eq-eqb m 0 e)) (λ (e : f ≡ true). inr e) before.1 in (
        (
          before.0,
          here.0,
          (λ e. ⊎_elim (λ (none : m ≡ 0). absurd (omega (arith, eqb-true m n e))) (λ (e : f ≡ true). inl e) before.1),
          inl (record { lines = forced; coded = coded; entering = λ b. above_enters b (eqb m 0) (eqb m n) f started }),
        ),
        inr (forced 8),
      )

  -- A FRAME OVER A FRAME THAT AGREES passes where all that is ever read agrees, or where no vector of its
  -- first record reaches above.
  deep_here : (a : ℕ) (h : Header) (older : List (List ℕ)) (bytes : List ℕ) → frame r ≤ a → Accepted h bytes
      → ((p : ℕ) → delay_of r h.sbc bytes p ≤ a + level r.block_lines (length older) * width r + (p - 1))
      → (length bytes ≡ record_length r)
      × (eqb (length older) r.block_lines ≡ true → Enters r (a + level r.block_lines (length older) * width r) (Pending (forced_after h older)))
      × Clear r (a + level r.block_lines (length older) * width r) h bytes (above_next (frame_after r h older no_tally))
  deep_here a h older bytes least taken moved =
      let n = r.block_lines in
      let w = width r in
      let m = level n (length older) in
      let here = passed r h.sbc (top_in tops bytes) bytes taken in
      let pels = mul-le 7 w m w (level_first n (length older)) (omega arith) in
      let framed : frame r ≤ a + m * w = omega arith in
      (here.0, (λ _. inr framed), inr (record { deep = omega arith; within = delay_within r h.sbc (top_in tops bytes) bytes here.1; moved = moved }))

  deep_passes : (a : ℕ) (h : Header) → frame r ≤ a → (records : List (List ℕ))
      → ((i : ℕ) → i < length records → Accepted h (get_or records i []))
      → (picture_reach r ≤ a) ⊎ StaysBelow r (get_or records (length records - 1) [])
      → Passes a h records
  deep_passes a h least [] each first = tt
  deep_passes a h least (bytes ∷ []) each first =
      let taken = each 0 (omega arith) in
      let s = (passed r h.sbc (top_in tops bytes) bytes taken).1 in
      let here =
      deep_here a h [] bytes least taken
      (λ p.
      ⊎_elim (λ (e : picture_reach r ≤ a). omega (arith, delay_within r h.sbc (top_in tops bytes) bytes s p))
      (λ (e : StaysBelow r bytes). omega (arith, delay_below r h.sbc (top_in tops bytes) bytes s e p)) first) in
      (tt, here.0, here.1, here.2)
  deep_passes a h least (bytes ∷ (x ∷ xs)) each first =
      let older = x ∷ xs in
      let n = r.block_lines in
      let w = width r in
      let taken = each 0 (omega arith) in
      let s = (passed r h.sbc (top_in tops bytes) bytes taken).1 in
      let last : length (bytes ∷ older) - 1 ≡ suc (length older - 1) = omega arith in
      let pels = mul-le 14 w (level n (length older)) w (level_later n (length xs)) (omega arith) in
      let here =
      deep_here a h older bytes least taken
      (λ p. omega (arith, delay_within r h.sbc (top_in tops bytes) bytes s p, pels, picture_reach_is r, width_least r)) in (
        deep_passes a h least (x ∷ xs) (λ i l. each (suc i) (omega arith))
            (⊎_elim (λ (e : picture_reach r ≤ a). inl e) (λ (e : StaysBelow r (get_or (bytes ∷ older) (length (bytes ∷ older) - 1) [])). inr (rw last at e)) first),
        here.0,
        here.1,
        here.2,
      )

  -- the opening, over signals that agree so far
  opening_alike : (a : ℕ) (s t : Signal) → Reach r s → Reach r t → Agree r (a + 7 * width r) (resets (7 * width r) s) (resets (7 * width r) t)
      → Alike r (a + 7 * width r) (course (resets (7 * width r) s) no_tally) (course (resets (7 * width r) t) no_tally)
  opening_alike a s t hs ht e =
      record {
        signal = e;
        tally = refl;
        left = lengths_reach r (lengths_resets (7 * width r) s) hs;
        right = lengths_reach r (lengths_resets (7 * width r) t) ht;
      }

  over_agreeing : (a : ℕ) (sent : Sent) (s t : Signal) → Usable tops values r sent → Reach r s → Reach r t → frame r ≤ a
      → (picture_reach r ≤ a) ⊎ StaysBelow r (first_record sent) → Agree r a s t
      → Alike r (a + frame r) (ended tops values r sent s) (ended tops values r sent t)
  over_agreeing a sent s t u hs ht least first e =
      ended_alike a sent s t u.full (deep_passes a (header_in sent.header) least sent.records u.each first) (inr least)
      (opening_alike a s t hs ht (agree_resets r (7 * width r) hs ht e))

  -- KEPT. Where all that is ever read agrees, it agrees after a frame, and both counted the same.
  pub agree_ended : (a : ℕ) (sent : Sent) (s t : Signal) → Usable tops values r sent → Reach r s → Reach r t → picture_reach r ≤ a → Agree r a s t
      → Agree r a (ended tops values r sent s).signal (ended tops values r sent t).signal
      × ((ended tops values r sent s).tally ≡ (ended tops values r sent t).tally)
  agree_ended a sent s t u hs ht all e =
      let g = over_agreeing a sent s t u hs ht (omega (arith, picture_reach_is r)) (inl all) e in
      (agree_less r (omega arith) g.signal, g.tally)

  -- HEALED. After a wholly refreshed frame any two signals agree over a frame.
  pub heal_ended : (sent : Sent) (s t : Signal) → Usable tops values r sent → WhollyRefreshed sent → Reach r s → Reach r t
      → Agree r (frame r) (ended tops values r sent s).signal (ended tops values r sent t).signal
  heal_ended sent s t u fresh hs ht =
      let h = header_in sent.header in
      let same : fresh.header ≡ h = cc (fresh.reads, u.reads) in
      let all : h.drm ≡ false = ap (λ (x : Header). x.drm) (sym same) ∙ fresh.all_lines in
      let passes = fresh_passes 0 h all sent.records u.each fresh.all_block_lines in
      let w = width r in
      let last =
      ⊎_elim (λ (none : length sent.records ≡ 0). absurd (omega (arith, u.full))) (λ (e : forced_after h sent.records ≡ true). e) passes.1 in
      let opened : Agree r (0 + 7 * w) (resets (7 * w) s) (resets (7 * w) t) = agree_less r (omega arith) (agree_after_resets r (7 * w) s t (omega arith) hs ht) in
      agree_less r (omega arith) (ended_alike 0 sent s t u.full passes.0 (inl last) (opening_alike 0 s t hs ht opened)).signal

  -- HEALED ALTOGETHER. After the next frame all that is ever read agrees, unless a vector reaches above.
  pub heal_next : (sent : Sent) (s t : Signal) → Usable tops values r sent → (ReachesAbove r sent → ⊥) → Reach r s → Reach r t → Agree r (frame r) s t
      → Agree r (picture_reach r) (ended tops values r sent s).signal (ended tops values r sent t).signal
  heal_next sent s t u below hs ht e =
      let g = over_agreeing (frame r) sent s t u hs ht (omega arith) (inr below) e in
      agree_less r (omega (arith, picture_reach_is r, frame_least r, width_least r)) g.signal
