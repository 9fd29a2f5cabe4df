-- The law over whole runs, put together.
use Rattle.std.proofs.Common.{◌≡◌, ℕ, zero, suc, ◌-◌, ◌*◌, ◌<◌, ◌≤◌, Bool, true, false, leb, List, [], ◌∷◌, ◌++◌, length, take, drop, ℤ, pos, nat_abs, Ok, sym, ap, ◌∙◌, subst, subst₂, arith}
use Rattle.std.proofs.lemmas.List.{append-nil, take-append-drop, length-map, length-drop, length-take, nil_from_length}
use Rattle.std.proofs.lemmas.Bool.{and_parts, leb-true, leb-false}
use Rattle.format.proofs.FrontTests.{still_usable}
use Rattle.format.proofs.SoundLaws.{no_fault}
use Rattle.format.proofs.WriteLaws.{count_passed}
use Rattle.format.specs.Front.{front_length, front_written}
use Rattle.format.specs.Raster.{width, line_levels, picture_reach}
use Rattle.format.specs.Reader.{verdict}
use Rattle.format.specs.Record.{level_in, has_line}
use Rattle.format.specs.Sound.{has_level}
use Rattle.format.specs.Usable.{front_usable, omitted}
use Rattle.format.specs.declared.raster.Raster.{Raster}
use Rattle.format.specs.declared.refusal.Refusal.TheVariants.{BlockLineCount}
use Rattle.quantizer.specs.Lawful.{Lawful}
use Rattle.quantizer.specs.declared.characteristic.Characteristic.{Characteristic}
use Rattle.codec.proofs.CodedRecords.{lines_long, record_is}
use Rattle.codec.specs.Block.{geometry_of}
use Rattle.codec.specs.Coder.{coded_lines, picture_length, record_written}
use Rattle.codec.specs.Decoder.{Frame, above_next, between_fields, block_lines, next_course, reach_test, top_in}
use Rattle.codec.specs.Signal.{Signal}
use Rattle.codec.specs.Step.{course}
use Rattle.law.specs.Law.{Within, OfPels, taken_at, written_at, IsParity, ClearedEndsAgree, CodedPelsInRange, CodedPelsClose, ParitiesCountOnes, PlanesNameWhatDiffers, RefreshHeals, FramesAreCoded, RecordsAreTaken, FramesAreTaken, Law}
use Rattle.law.specs.Runs.{Sent, Written, Taken, Standing, CoderRun}
use Rattle.law.proofs.Acceptance.{omitted_uncoded, usable_whole}
use Rattle.law.proofs.Calls.{CodesLine, codes_line}
use Rattle.law.proofs.Closeness.{coded_pels_close}
use Rattle.law.proofs.Coders.{FineAll, Keeps, keeps}
use Rattle.law.proofs.Coding.{frame_coded}
use Rattle.law.proofs.Entering.{parity_counts}
use Rattle.law.proofs.Held.{cleared_agree}
use Rattle.law.proofs.Histories.{sent_by, sent_to, WroteAll, TookAll, works_raster, codes, decodes, reach_passed}
use Rattle.law.proofs.Lengths.{reach_start}
use Rattle.law.proofs.Matching.{NoneHeld, matched_reach, cleared_all, cleared_held, names_at, healed}
use Rattle.law.proofs.Ranges.{Bounds, all_pels, inner_pels, cleared_within, within_wider}
use Rattle.law.proofs.Records.{coded_course_within, record_level_within, record_level_silent}
use Rattle.law.proofs.Steps.{flushed_within, resets_within}
use Rattle.law.proofs.Taking.{AllUsable, line_taken, take_frames}
use Rattle.law.proofs.Through.{Reach, Usable}

-- a decoder that took a frame has memories that reach
took_reach : (tops : Characteristic → ℕ) (values : Characteristic → ℤ → ℤ) (r : Raster) (start : Signal) (taken : List Taken)
    → TookAll tops values r start taken → 1 ≤ length taken → Reach r start
took_reach tops values r start [] k h = absurd (omega arith)
took_reach tops values r start (t ∷ taken) k h = reach_start tops values r (sent_to taken) start k.0.reach

-- the parities that a decoder told
took_parities : (tops : Characteristic → ℕ) (values : Characteristic → ℤ → ℤ) (r : Raster) (start : Signal) (taken : List Taken)
    → TookAll tops values r start taken → (i : ℕ) → i < length taken → IsParity (taken_at taken i).parity (taken_at taken i).pels
took_parities tops values r start [] k i h = absurd (omega arith)
took_parities tops values r start (t ∷ taken) k zero h =
    subst₂ IsParity (sym k.0.parity_is) (sym k.0.pels_are) (parity_counts tops values r t.sent _ k.0.usable k.0.reach)
took_parities tops values r start (t ∷ taken) k (suc i) h = took_parities tops values r start taken k.1 i (omega arith)

module _ (tops shortfalls : Characteristic → ℕ) (values numbers : Characteristic → ℤ → ℤ)
    (law : (q : Characteristic) → Lawful (tops q) (shortfalls q) (numbers q) (values q)) where
  -- a record that a coder writes is usable
  record_usable : (f : Frame) (front : List ℕ) (stop : Bool) (picture : List ℤ) (s : Signal) → OfPels s → length front ≡ front_length f.raster
      → length picture ≡ picture_length f.raster → front_usable f.raster f.header.sbc front ≡ Ok tt
      → let bytes = record_written tops values numbers f front stop picture s in verdict f.raster f.header.sbc (top_in tops bytes) bytes ≡ Ok tt
  record_usable f front stop picture s w long pels use' =
      let r = f.raster in
      let sbc = f.header.sbc in
      let bytes = record_written tops values numbers f front stop picture s in
      let written = front_written r stop front in
      let levels = (coded_lines tops values numbers f front stop picture s).levels in
      let is : bytes ≡ written ++ levels = record_is tops values numbers f front stop picture s in
      let kept = still_usable r sbc stop front use' long in
      let many : length levels ≡ 8 * line_levels r =
      lines_long tops values numbers r f.header (leb r.block_lines f.done) (above_next f) written stop picture pels 8 1
      (between_fields f (course s f.tally)) (omega arith) (omega arith) in
      let second = leb r.block_lines f.done in
      let within : (line pel : ℕ) → has_line line ≡ true → has_level r pel ≡ true → nat_abs (level_in r bytes line pel) ≤ top_in tops bytes =
      record_level_within tops shortfalls values numbers law f front stop picture s w long pels in
      let silent : (line pel : ℕ) → has_line line ≡ true → has_level r pel ≡ true → omitted r sbc bytes line pel ≡ true → level_in r bytes line pel ≡ pos 0 =
      λ line pel on_line on-pel gone.
      record_level_silent tops shortfalls values numbers law f front stop picture s w long pels line pel on_line on-pel
      (omitted_uncoded (geometry_of r) r f.header second (above_next f) bytes line pel (leb-true pel (width r) (and_parts (leb 4 pel) (leb pel (width r)) on-pel).1) gone) in
      subst (λ b. verdict r sbc (top_in tops bytes) b ≡ Ok tt) (sym is)
      (usable_whole r sbc written levels kept.1 (top_in tops bytes) many kept.0
      (λ line pel on_line on-pel. subst (λ b. nat_abs (level_in r b line pel) ≤ top_in tops bytes) is (within line pel on_line on-pel))
      (λ line pel on_line on-pel gone.
      subst (λ b. level_in r b line pel ≡ pos 0) is (silent line pel on_line on-pel (ap (λ b. omitted r sbc b line pel) is ∙ gone))))

  -- what a coder's memories keep between bounds
  module _ {low high : ℤ} (bounds : Bounds low high) (r : Raster) (start : Signal) where
    coded_keeps : (f f' : Frame) (front : List ℕ) (stop : Bool) (picture : List ℤ) (s s' : Signal) (bytes : List ℕ)
        → CodesLine tops values numbers f front stop picture s f' bytes s' → Within low high s
        → Within low high (next_course tops values f bytes s).signal
        × ((next_course tops values f bytes s).tally.held ≡ f.tally.held)
        × (verdict f.raster f.header.sbc (top_in tops bytes) bytes ≡ Ok tt)
    coded_keeps f f' front stop picture s s' bytes o w =
        let long = count_passed _ _ o.front_long in
        let pels = count_passed _ _ o.picture_long in
        let kept = coded_course_within tops shortfalls values numbers law bounds f front stop picture s bytes long pels o.bytes_are w in
        let wide = within_wider s bounds.low_least bounds.high_most w in
        let use' = record_usable f front stop picture s wide long pels o.usable in
        (kept.0, kept.1, subst (λ b. verdict f.raster f.header.sbc (top_in tops b) b ≡ Ok tt) (sym o.bytes_are) use')

    abbrev KeepsBounds : List Written → Standing Sent → Type 0
    KeepsBounds = Keeps tops values numbers r start (Within low high) (resets_within bounds) coded_keeps (flushed_within bounds)

    keeps_bounds : {written : List Written} {at : Standing Sent} → CoderRun tops values numbers r start written at → Within low high start → KeepsBounds written at
    keeps_bounds = keeps tops values numbers r start (Within low high) (resets_within bounds) coded_keeps (flushed_within bounds)

    -- no frame held a pel
    none_held : (written : List Written)
        → FineAll tops values numbers r start (Within low high) (resets_within bounds) coded_keeps (flushed_within bounds) written
        → NoneHeld tops values r start written
    none_held [] k = tt
    none_held (w ∷ written) k = (k.0.none_held, none_held written k.1)

    -- and the newest frames are usable, however many
    newest_usable : (written : List Written) → WroteAll tops values r start written
        → FineAll tops values numbers r start (Within low high) (resets_within bounds) coded_keeps (flushed_within bounds) written
        → (n : ℕ) (other : Signal) → AllUsable tops values r other (take n (sent_by written))
    newest_usable [] kw kf zero other = tt
    newest_usable [] kw kf (suc n) other = tt
    newest_usable (w ∷ written) kw kf zero other = tt
    newest_usable (w ∷ written) kw kf (suc n) other =
        (record { reads = kw.0.reads; full = kw.0.full; each = kf.0.each }, newest_usable written kw.1 kf.1 n other)

    -- and their parities are told
    wrote_parities : (written : List Written) → WroteAll tops values r start written
        → FineAll tops values numbers r start (Within low high) (resets_within bounds) coded_keeps (flushed_within bounds) written
        → (i : ℕ) → i < length written → IsParity (written_at written i).parity (written_at written i).pels
    wrote_parities [] kw kf i h = absurd (omega arith)
    wrote_parities (w ∷ written) kw kf zero h =
        let use' : Usable tops values r w.sent = record { reads = kw.0.reads; full = kw.0.full; each = kf.0.each } in
        subst₂ IsParity (sym kw.0.parity_is) (sym kw.0.pels_are) (parity_counts tops values r w.sent _ use' kw.0.reach)
    wrote_parities (w ∷ written) kw kf (suc i) h = wrote_parities written kw.1 kf.1 i (omega arith)

  cleared_ends_agree : ClearedEndsAgree tops shortfalls values numbers
  cleared_ends_agree r sc sd tc td ec ed written taken coder decoder match clear-c clear-d =
      let wrote = codes tops values numbers r sc coder in
      let took = decodes tops values r sd decoder in
      let none : match.earlier ≡ [] = nil_from_length match.earlier (omega (arith, match.earlier_ones)) in
      let same : sent_by written ≡ sent_to taken = match.same ∙ ap (λ x. sent_to taken ++ x) none ∙ append-nil (sent_to taken) in
      let kept = keeps_bounds all_pels r sc coder (cleared_within all_pels sc clear-c) in
      let hc : Reach r sc =
      reach_start tops values r match.earlier sc
      (matched_reach tops values r sc sd match.earlier written taken wrote.0 match.same match.one_at_least) in
      let hd : Reach r sd = took_reach tops values r sd taken took.0 match.one_at_least in
      let alike = cleared_agree r (picture_reach r) sc sd clear-c clear-d in (
        cleared_held tops values r sc sd hc hd alike written taken tc td took.0 same wrote.1.signal_is took.1.signal_is,
        λ i h. cleared_all tops values r sc sd hc hd alike written taken i wrote.0 took.0 (none_held all_pels r sc written kept.0) same h,
      )

  coded_pels_in_range : CodedPelsInRange tops shortfalls values numbers
  coded_pels_in_range r start written clear =
      let begins = cleared_within inner_pels start clear in (
        λ e s run. (keeps_bounds inner_pels r start run begins).1,
        λ f s sent run. (keeps_bounds inner_pels r start run begins).1,
      )

  coded_pels_come_close : CodedPelsClose tops shortfalls values numbers
  coded_pels_come_close r start s s' written f f' sent front bytes buffer picture pels run q =
      let kept = keeps_bounds all_pels r start run pels in
      let o = codes_line tops values numbers f front false picture buffer s f' bytes s' q in
      coded_pels_close tops shortfalls values numbers law f front picture s kept.1 (count_passed _ _ o.front_long) (count_passed _ _ o.picture_long)
      bytes o.bytes_are r (works_raster tops values r start (codes tops values numbers r start run).1)

  parities_count_ones : ParitiesCountOnes tops shortfalls values numbers
  parities_count_ones = (
    λ r start s e taken run. took_parities tops values r start taken (decodes tops values r start run).0,
    λ r start s e written pels run.
        wrote_parities all_pels r start written (codes tops values numbers r start run).0 (keeps_bounds all_pels r start run pels).0,
  )

  planes_name_what_differs : PlanesNameWhatDiffers tops shortfalls values numbers
  planes_name_what_differs r sc sd tc td ec ed j written taken coder decoder match i h =
      names_at tops values r sc sd match.earlier written taken i (codes tops values numbers r sc coder).0 (decodes tops values r sd decoder).0 match.same h

  refresh_heals : RefreshHeals tops shortfalls values numbers
  refresh_heals r sc sd tc td ec ed j written taken coder decoder match fresh =
      let wrote = codes tops values numbers r sc coder in
      let took = decodes tops values r sd decoder in
      healed tops values r sc sd match.earlier written taken tc td wrote.0 took.0 wrote.1.signal_is took.1.signal_is match.same match.one_at_least
      (took_reach tops values r sd taken took.0 match.one_at_least) fresh

  frames_are_coded : FramesAreCoded tops shortfalls values numbers
  frames_are_coded r start reached = frame_coded tops values numbers r start reached

  records_are_taken : RecordsAreTaken tops shortfalls values numbers
  records_are_taken r start s s' t written f f' g sent front bytes buffer stop picture pels run q reached same-raster same-header same-done =
      let kept = keeps_bounds all_pels r start run pels in
      let o = codes_line tops values numbers f front stop picture buffer s f' bytes s' q in
      let use' = (coded_keeps all_pels r start f f' front stop picture s s' bytes o kept.1).2 in
      let raster-is : f.raster ≡ r = works_raster tops values r start (codes tops values numbers r start run).1 in
      let more : f.done < block_lines f.raster = leb-false _ _ (no_fault _ (BlockLineCount f.done) o.turn) in
      line_taken tops values g bytes t
      (ap (λ x. reach_test x t) (same-raster ∙ raster-is) ∙ reached)
      (subst₂ (λ d x. d < block_lines x) (sym same-done) (sym same-raster) more)
      (ap (λ x. verdict x g.header.sbc (top_in tops bytes) bytes) same-raster ∙ ap (λ x. verdict f.raster x.sbc (top_in tops bytes) bytes) same-header ∙ use')

  frames_are_taken : FramesAreTaken tops shortfalls values numbers
  frames_are_taken r sc sd tc ec j written pels coder reached low high =
      let kept = keeps_bounds all_pels r sc coder pels in
      let wrote = codes tops values numbers r sc coder in
      let n = length written - (j - 1) in
      let frames = take n (sent_by written) in
      let earlier = drop n (sent_by written) in
      let all : length (sent_by written) ≡ length written = length-map written (λ w. w.sent) in
      let later : length earlier ≡ length (sent_by written) - n = length-drop n (sent_by written) in
      let done = take_frames tops values r sd frames (reach_passed r sd reached) (newest_usable all_pels r sc written wrote.0 kept.0 n sd) in (
        done.0,
        done.1,
        done.2,
        done.3,
        record {
          earlier = earlier;
          earlier_ones = omega arith;
          same = sym (take-append-drop n (sent_by written)) ∙ ap (λ x. x ++ earlier) (sym done.4);
          one_at_least = omega (arith, length-map done.0 (λ t. t.sent), ap length done.4, length-take n (sent_by written));
        },
      )

pub law_of_runs : Law
law_of_runs tops shortfalls values numbers law =
    record {
      cleared_ends_agree = cleared_ends_agree tops shortfalls values numbers law;
      coded_pels_in_range = coded_pels_in_range tops shortfalls values numbers law;
      coded_pels_close = coded_pels_come_close tops shortfalls values numbers law;
      parities_count_ones = parities_count_ones tops shortfalls values numbers law;
      planes_name_what_differs = planes_name_what_differs tops shortfalls values numbers law;
      refresh_heals = refresh_heals tops shortfalls values numbers law;
      frames_are_coded = frames_are_coded tops shortfalls values numbers law;
      records_are_taken = records_are_taken tops shortfalls values numbers law;
      frames_are_taken = frames_are_taken tops shortfalls values numbers law;
    }
