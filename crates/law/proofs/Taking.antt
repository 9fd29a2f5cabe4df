-- A decoder that takes given frames, and a coder that finishes one: runs that are there.
use Rattle.std.proofs.Common.{◌≡◌, ℕ, suc, ◌<◌, ◌≤◌, Bool, false, List, [], ◌∷◌, length, get_or, ℤ, Ok, Result, sym, refl, ap, ◌∙◌, subst, arith}
use Rattle.std.proofs.lemmas.Bool.{le-ltb, lt-leb}
use Rattle.std.specs.Result.{result_and}
use Rattle.format.specs.Header.{read_header}
use Rattle.format.specs.Reader.{verdict}
use Rattle.format.specs.Usable.{refuse_if}
use Rattle.format.specs.declared.raster.Raster.{Raster}
use Rattle.format.specs.declared.refusal.MemoryName.TheVariants.{Picture, Background, Line, Marks}
use Rattle.format.specs.declared.refusal.Refusal.{Refusal}
use Rattle.format.specs.declared.refusal.Refusal.TheVariants.{BlockLineCount, MemoryReach}
use Rattle.quantizer.specs.declared.characteristic.Characteristic.{Characteristic}
use Rattle.codec.specs.Decoder.{Frame, reach_test, opened_on, block_lines, record_test, block_line_on, block_line, finish_test, finish_on, top_in, Idle}
use Rattle.codec.specs.Signal.{Signal}
use Rattle.law.specs.Runs.{Sent, begun_with, Taken, Resting, Working, DecoderRun}
use Rattle.law.proofs.Histories.{sent_to, Works, works_raster, works_header, works_done, decodes}
use Rattle.law.proofs.Lengths.{reach_worked, reach_through}
use Rattle.law.proofs.Through.{Reach, header_in, through, Usable}

-- a test that finds no fault passes
pub no_refusal_if : (fault : Bool) (why : Refusal) → fault ≡ false → refuse_if fault why ≡ Ok tt
no_refusal_if fault why e = ap (λ b. refuse_if b why) e

pub both_passed : {T E : Type 0} {v : Result (Unit {0}) E} {w w' : Result T E} → v ≡ Ok tt → w ≡ w' → result_and v w ≡ w'
both_passed {w = w} p q = ap (λ x. result_and x w) p ∙ q

pub reach_passes : (r : Raster) (s : Signal) → Reach r s → reach_test r s ≡ Ok tt
reach_passes r s h =
    both_passed (no_refusal_if _ (MemoryReach Picture) (le-ltb _ _ h.picture))
    (both_passed (no_refusal_if _ (MemoryReach Background) (le-ltb _ _ h.background))
    (both_passed (no_refusal_if _ (MemoryReach Line) (le-ltb _ _ h.line))
    (no_refusal_if _ (MemoryReach Marks) (le-ltb _ _ h.marks))))

module _ (tops : Characteristic → ℕ) (values : Characteristic → ℤ → ℤ) where
  -- a usable record in its turn is taken
  pub line_taken : (g : Frame) (bytes : List ℕ) (t : Signal) → reach_test g.raster t ≡ Ok tt → g.done < block_lines g.raster
      → verdict g.raster g.header.sbc (top_in tops bytes) bytes ≡ Ok tt
      → (g' : Frame) × (t' : Signal) × (block_line tops values g bytes t ≡ (Ok g', t'))
  line_taken g bytes t reached turn use' =
      let passes : record_test tops values g bytes t ≡ Ok tt =
      both_passed reached (both_passed (no_refusal_if _ (BlockLineCount g.done) (lt-leb _ _ turn)) use') in
      (_, _, ap (block_line_on tops values g bytes t) passes)

  module _ (r : Raster) (start : Signal) where
    pub works_reach : {frames : List Sent} {f : Frame} {s : Signal} {sent : Sent} → Works tops values r start frames f s sent → reach_test f.raster s ≡ Ok tt
    works_reach {frames} {f} {s} {sent} w =
        let there = reach_passes r _ (reach_worked tops values r sent (through tops values r frames start) w.reach) in
        ap (λ x. reach_test x s) (works_raster tops values r start w) ∙ ap (λ b. reach_test r b.signal) w.hand_is ∙ there

    -- the records of a frame, one after another
    take_records : (taken : List Taken) (header : List ℕ) (planes : ℕ) (f₀ : Frame) (s₀ : Signal) (records : List (List ℕ))
        → DecoderRun tops values r start taken (Working f₀ s₀ (begun_with header, planes))
        → ((i : ℕ) → i < length records → verdict r (header_in header).sbc (top_in tops (get_or records i [])) (get_or records i []) ≡ Ok tt)
        → length records ≤ block_lines r
        → (f : Frame) × (s : Signal) × DecoderRun tops values r start taken (Working f s (record { header = header; records = records }, planes))
    take_records taken header planes f₀ s₀ [] run each few = (f₀, s₀, run)
    take_records taken header planes f₀ s₀ (bytes ∷ older) run each few =
        let before = take_records taken header planes f₀ s₀ older run (λ i h. each (suc i) (omega arith)) (omega arith) in
        let f = before.0 in
        let known = decodes tops values r start before.2 in
        let raster-is = works_raster tops values r start known.1 in
        let header_is = works_header tops values r start known.1 in
        let turn : f.done < block_lines r = omega (arith, works_done tops values r start known.1) in
        let turn' : f.done < block_lines f.raster = subst (λ x. f.done < block_lines x) (sym raster-is) turn in
        let use' : verdict f.raster f.header.sbc (top_in tops bytes) bytes ≡ Ok tt =
        ap (λ x. verdict x f.header.sbc (top_in tops bytes) bytes) raster-is
        ∙ ap (λ x. verdict r x.sbc (top_in tops bytes) bytes) header_is ∙ each 0 (omega arith) in
        let next = line_taken f bytes before.1 (works_reach known.1) turn' use' in
        (next.0, next.1, DecoderRun.decoded bytes before.2 next.2)

    -- a frame that is done is finished
    take_finish : (taken : List Taken) (sent : Sent) (planes : ℕ) (f : Frame) (s : Signal)
        → DecoderRun tops values r start taken (Working f s (sent, planes)) → length sent.records ≡ block_lines r
        → (t : Taken) × (e : Idle) × (s' : Signal) × DecoderRun tops values r start (t ∷ taken) (Resting e s') × (t.sent ≡ sent)
    take_finish taken sent planes f s run full =
        let known = decodes tops values r start run in
        let all : block_lines f.raster ≤ f.done =
        subst (λ x. block_lines x ≤ f.done) (sym (works_raster tops values r start known.1)) (omega (arith, works_done tops values r start known.1)) in
        let passes : finish_test f s ≡ Ok tt = both_passed (works_reach known.1) (no_refusal_if _ (BlockLineCount f.done) (le-ltb _ _ all)) in
        (_, _, _, DecoderRun.finished run (ap (finish_on f s) passes), refl)

    -- all frames of a list
    abbrev pub AllUsable : List Sent → Type 0
    AllUsable [] = Unit {0}
    AllUsable (x ∷ older) = Usable tops values r x × AllUsable older

    pub take_frames : (frames : List Sent) → Reach r start → AllUsable frames
        → (taken : List Taken) × (e : Idle) × (t : Signal) × DecoderRun tops values r start taken (Resting e t) × (sent_to taken ≡ frames)
    take_frames [] far k = ([], _, _, DecoderRun.new, refl)
    take_frames (x ∷ older) far k =
        let before = take_frames older far k.1 in
        let taken = before.0 in
        let e = before.1 in
        let t = before.2 in
        let known = decodes tops values r start before.3 in
        let reached : reach_test e.raster t ≡ Ok tt =
        ap (λ y. reach_test y.raster t) known.1.end_is ∙ ap (reach_test r) known.1.signal_is ∙ reach_passes r _ (reach_through tops values r (sent_to taken) start far) in
        let passes : result_and (reach_test e.raster t) (read_header x.header) ≡ Ok (header_in x.header) = both_passed reached k.0.reads in
        let opened = DecoderRun.opened x.header before.3 (ap (opened_on e t) passes) in
        let worked' = take_records taken x.header _ _ _ x.records opened k.0.each (omega (arith, k.0.full)) in
        let done = take_finish taken x _ worked'.0 worked'.1 worked'.2 k.0.full in
        (done.0 ∷ taken, done.1, done.2, done.3, λ i. done.4 i ∷ before.4 i)
