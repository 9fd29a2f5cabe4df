-- A coder and a decoder that matches it: what both hold, and what the decoder's openings name.
use Rattle.std.proofs.Common.{◌≡◌, ℕ, zero, suc, ◌+◌, ◌<◌, ◌≤◌, List, [], ◌∷◌, ◌++◌, length, ℤ, sym, refl, ap, ◌∙◌, subst, subst₂, inl, inr, arith}
use lib.Bits.{bit_xor, xor_self}
use Rattle.format.proofs.RasterLaws.{picture_reach_is}
use Rattle.format.specs.Raster.{frame, picture_reach}
use Rattle.format.specs.declared.raster.Raster.{Raster}
use Rattle.quantizer.specs.declared.characteristic.Characteristic.{Characteristic}
use Rattle.codec.specs.Decoder.{parity_of}
use Rattle.codec.specs.Signal.{Signal}
use Rattle.law.specs.Law.{Names, SameHeld, WhollyRefreshed, ReachesAbove, Refreshes, taken_at, written_at}
use Rattle.law.specs.Runs.{Sent, counted_pels, Written, Taken}
use Rattle.law.proofs.Entering.{parities_name}
use Rattle.law.proofs.Healing.{agree_ended, heal_ended, heal_next}
use Rattle.law.proofs.Held.{agree_held}
use Rattle.law.proofs.Histories.{sent_by, sent_to, WroteAll, TookAll}
use Rattle.law.proofs.Lengths.{reach_ended, reach_through, reach_start}
use Rattle.law.proofs.Through.{Reach, Agree, header_in, ended, through, parity_after, Usable}

-- the first and the rest of equal lists
pub first_same : {X : Type 0} {x y : X} {xs ys : List X} → ◌≡◌ {A = List X} (x ∷ xs) (y ∷ ys) → x ≡ y
first_same e = cc

pub rest_same : {X : Type 0} {x y : X} {xs ys : List X} → ◌≡◌ {A = List X} (x ∷ xs) (y ∷ ys) → xs ≡ ys
rest_same e = cc

-- a frame is within the reach of the picture memory
pub frame_reach : (r : Raster) → frame r ≤ picture_reach r
frame_reach r = omega (arith, picture_reach_is r)

module _ (tops : Characteristic → ℕ) (values : Characteristic → ℤ → ℤ) (r : Raster) where
  abbrev after : List Sent → Signal → Signal
  after = through tops values r

  -- earlier frames first, then the others
  pub through_all : (frames earlier : List Sent) (s : Signal) → after (frames ++ earlier) s ≡ after frames (after earlier s)
  through_all [] earlier s = refl
  through_all (x ∷ frames) earlier s = ap (λ y. (ended tops values r x y).signal) (through_all frames earlier s)

  -- frames that a decoder took keep full agreement
  pub agree_through : (start : Signal) (taken : List Taken) (s t : Signal) → TookAll tops values r start taken → Reach r s → Reach r t
      → Agree r (picture_reach r) s t → Agree r (picture_reach r) (after (sent_to taken) s) (after (sent_to taken) t)
  agree_through start [] s t k hs ht h = h
  agree_through start (x ∷ taken) s t k hs ht h =
      (agree_ended tops values r (picture_reach r) x.sent _ _ k.0.usable (reach_through tops values r (sent_to taken) s hs) (reach_through tops values r (sent_to taken) t ht) (omega arith)
      (agree_through start taken s t k.1 hs ht h)).0

  -- a refreshed frame and one after it that does not reach above bring full agreement, and it stays
  pub heal_at : (start : Signal) (taken : List Taken) (i : ℕ) (s t : Signal) → TookAll tops values r start taken → Reach r s → Reach r t
      → i + 1 < length taken → WhollyRefreshed (taken_at taken (i + 1)).sent → (ReachesAbove r (taken_at taken i).sent → ⊥)
      → Agree r (picture_reach r) (after (sent_to taken) s) (after (sent_to taken) t)
  heal_at start [] i s t k hs ht h fresh low = absurd (omega arith)
  heal_at start (x ∷ []) i s t k hs ht h fresh low = absurd (omega arith)
  heal_at start (x ∷ (y ∷ taken)) zero s t k hs ht h fresh low =
      let rs = reach_through tops values r (sent_to taken) s hs in
      let rt = reach_through tops values r (sent_to taken) t ht in
      heal_next tops values r x.sent _ _ k.0.usable low (reach_ended tops values r y.sent _ rs) (reach_ended tops values r y.sent _ rt)
      (heal_ended tops values r y.sent _ _ k.1.0.usable fresh rs rt)
  heal_at start (x ∷ (y ∷ taken)) (suc i) s t k hs ht h fresh low =
      let more = sent_to (y ∷ taken) in
      let at : suc i + 1 ≡ suc (i + 1) = omega arith in
      let fresh' : WhollyRefreshed (taken_at (y ∷ taken) (i + 1)).sent = subst (λ n. WhollyRefreshed (taken_at (x ∷ (y ∷ taken)) n).sent) at fresh in
      (agree_ended tops values r (picture_reach r) x.sent _ _ k.0.usable (reach_through tops values r more s hs) (reach_through tops values r more t ht) (omega arith)
      (heal_at start (y ∷ taken) i s t k.1 hs ht (omega arith) fresh' low)).0

  -- under a match, the coder's memories are those of the frames taken, from where the earlier frames left them
  module _ (sc sd : Signal) (earlier : List Sent) where
    abbrev from : Signal
    from = after earlier sc

    -- the memories of both reach far enough
    pub matched_reach : (written : List Written) (taken : List Taken) → WroteAll tops values r sc written → sent_by written ≡ sent_to taken ++ earlier
        → 1 ≤ length taken → Reach r from
    matched_reach written [] k same h = absurd (omega arith)
    matched_reach [] (t ∷ taken) k same h = let z : ◌≡◌ {A = ℕ} 0 1 = cc in absurd (omega arith)
    matched_reach (w ∷ written) (t ∷ taken) k same h = reach_through tops values r earlier sc (reach_start tops values r (sent_by written) sc k.0.reach)

    -- what an opening after the first names
    pub names_at : (written : List Written) (taken : List Taken) (i : ℕ) → WroteAll tops values r sc written → TookAll tops values r sd taken
        → sent_by written ≡ sent_to taken ++ earlier → i + 1 < length taken
        → Names (taken_at taken i).planes (written_at written (i + 1)).pels (taken_at taken (i + 1)).pels
    names_at written [] i kw kt same h = absurd (omega arith)
    names_at written (t ∷ []) i kw kt same h = absurd (omega arith)
    names_at [] (t ∷ (u ∷ taken)) i kw kt same h = let z : ◌≡◌ {A = ℕ} 0 1 = cc in absurd (omega arith)
    names_at (w ∷ []) (t ∷ (u ∷ taken)) i kw kt same h =
        let tail = rest_same same in let z : ◌≡◌ {A = ℕ} 0 1 = cc in absurd (omega arith)
    names_at (w ∷ (v ∷ written)) (t ∷ (u ∷ taken)) (suc i) kw kt same h =
        let at : suc i + 1 ≡ suc (i + 1) = omega arith in
        subst (λ n. Names (taken_at (u ∷ taken) i).planes (written_at (w ∷ (v ∷ written)) n).pels (taken_at (t ∷ (u ∷ taken)) n).pels) (sym at)
        (names_at (v ∷ written) (u ∷ taken) i kw.1 kt.1 (rest_same same) (omega arith))
    names_at (w ∷ (v ∷ written)) (t ∷ (u ∷ taken)) zero kw kt same h =
        let wrote = kw.1.0 in
        let took = kt.1.0 in
        let same-frame : v.sent ≡ u.sent = first_same (rest_same same) in
        let c = ended tops values r u.sent (after (sent_by written) sc) in
        let d = ended tops values r u.sent (after (sent_to taken) sd) in
        let sender : (header_in t.sent.header).parity ≡ parity_of c.tally =
        ap (λ x. (header_in x.header).parity) (sym (first_same same)) ∙ kw.0.begins ∙ ap (λ x. parity_of (ended tops values r x (after (sent_by written) sc)).tally) same-frame in
        let named : t.planes ≡ bit_xor (parity_of c.tally) (parity_of d.tally) = kt.0.planes_are ∙ ap (λ x. bit_xor x (parity_of d.tally)) sender in
        let theirs : v.pels ≡ counted_pels r c.signal.picture =
        wrote.pels_are ∙ ap (λ x. counted_pels r (ended tops values r x (after (sent_by written) sc)).signal.picture) same-frame in
        subst (λ n. Names n v.pels u.pels) (sym named)
        (subst₂ (Names (bit_xor (parity_of c.tally) (parity_of d.tally))) (sym theirs) (sym took.pels_are)
        (parities_name tops values r u.sent _ _ took.usable wrote.reach took.reach))

    -- the coder's memories after a match
    pub matched_signal : (written : List Written) (taken : List Taken) (s : Signal) → s ≡ after (sent_by written) sc
        → sent_by written ≡ sent_to taken ++ earlier → s ≡ after (sent_to taken) from
    matched_signal written taken s is same = is ∙ ap (λ x. after x sc) same ∙ through_all (sent_to taken) earlier sc

    -- refresh heals
    pub healed : (written : List Written) (taken : List Taken) (tc td : Signal) → WroteAll tops values r sc written → TookAll tops values r sd taken
        → tc ≡ after (sent_by written) sc → td ≡ after (sent_to taken) sd → sent_by written ≡ sent_to taken ++ earlier → 1 ≤ length taken → Reach r sd
        → Refreshes r taken → SameHeld r tc td
    healed written [] tc td kw kt is_c is-d same some hd fresh = absurd (omega arith)
    healed written (t ∷ taken) tc td kw kt is_c is-d same some hd fresh =
        let hc = matched_reach written (t ∷ taken) kw same some in
        let there = matched_signal written (t ∷ taken) tc is_c same in
        let rc = reach_through tops values r (sent_to (t ∷ taken)) from hc in
        let rd = reach_through tops values r (sent_to (t ∷ taken)) sd hd in
        subst₂ (SameHeld r) (sym there) (sym is-d)
        (elim fresh [
          | inl now ↦
              agree_held r (frame r) _ _ rc rd (omega arith)
              (heal_ended tops values r t.sent _ _ kt.0.usable now (reach_through tops values r (sent_to taken) from hc) (reach_through tops values r (sent_to taken) sd hd))
          | inr before ↦
              agree_held r (picture_reach r) _ _ rc rd (frame_reach r)
              (heal_at sd (t ∷ taken) before.0 from sd kt hc hd before.1 before.2 before.3)
        ])

  -- CLEARED. No coded frame held a pel.
  abbrev pub NoneHeld : Signal → List Written → Type 0
  NoneHeld sc [] = Unit {0}
  NoneHeld sc (w ∷ written) = ((ended tops values r w.sent (after (sent_by written) sc)).tally.held ≡ 0) × NoneHeld sc written

  module _ (sc sd : Signal) (hc : Reach r sc) (hd : Reach r sd) (alike : Agree r (picture_reach r) sc sd) where
    -- ends that agreed at first agree after each frame, in what they counted too
    tally_same : (t : Taken) (taken : List Taken) → Usable tops values r t.sent → TookAll tops values r sd taken
        → (ended tops values r t.sent (after (sent_to taken) sc)).tally ≡ (ended tops values r t.sent (after (sent_to taken) sd)).tally
    tally_same t taken use' k =
        (agree_ended tops values r (picture_reach r) t.sent _ _ use' (reach_through tops values r (sent_to taken) sc hc) (reach_through tops values r (sent_to taken) sd hd) (omega arith)
        (agree_through sd taken sc sd k hc hd alike)).1

    parity_same : (taken : List Taken) → TookAll tops values r sd taken
        → parity_after tops values r (sent_to taken) sc ≡ parity_after tops values r (sent_to taken) sd
    parity_same [] k = refl
    parity_same (t ∷ taken) k = ap parity_of (tally_same t taken k.0.usable k.1)

    pub cleared_all : (written : List Written) (taken : List Taken) (i : ℕ) → WroteAll tops values r sc written → TookAll tops values r sd taken
        → NoneHeld sc written → sent_by written ≡ sent_to taken → i < length taken → ((taken_at taken i).planes ≡ 0) × ((taken_at taken i).held ≡ 0)
    cleared_all written [] i kw kt none same h = absurd (omega arith)
    cleared_all [] (t ∷ taken) i kw kt none same h = let z : ◌≡◌ {A = ℕ} 0 1 = cc in absurd (omega arith)
    cleared_all (w ∷ written) (t ∷ taken) (suc i) kw kt none same h = cleared_all written taken i kw.1 kt.1 none.1 (rest_same same) (omega arith)
    cleared_all (w ∷ written) (t ∷ taken) zero kw kt none same h =
        let first = first_same same in
        let rest = rest_same same in
        let own = parity_after tops values r (sent_to taken) sd in
        let sender : (header_in t.sent.header).parity ≡ own =
        ap (λ x. (header_in x.header).parity) (sym first) ∙ kw.0.begins ∙ ap (λ x. parity_after tops values r x sc) rest ∙ parity_same taken kt.1 in
        let coded : (ended tops values r t.sent (after (sent_to taken) sc)).tally.held ≡ 0 =
        sym (λ j. (ended tops values r (first j) (after (rest j) sc)).tally.held) ∙ none.0 in (
          kt.0.planes_are ∙ ap (λ x. bit_xor x own) sender ∙ xor_self own,
          kt.0.held_is ∙ ap (λ x. x.held) (sym (tally_same t taken kt.0.usable kt.1)) ∙ coded,
        )

    pub cleared_held : (written : List Written) (taken : List Taken) (tc td : Signal) → TookAll tops values r sd taken → sent_by written ≡ sent_to taken
        → tc ≡ after (sent_by written) sc → td ≡ after (sent_to taken) sd → SameHeld r tc td
    cleared_held written taken tc td kt same is_c is-d =
        subst₂ (SameHeld r) (sym (is_c ∙ ap (λ x. after x sc) same)) (sym is-d)
        (agree_held r (picture_reach r) _ _ (reach_through tops values r (sent_to taken) sc hc) (reach_through tops values r (sent_to taken) sd hd) (frame_reach r) (agree_through sd taken sc sd kt hc hd alike))
