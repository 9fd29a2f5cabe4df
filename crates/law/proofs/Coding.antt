-- A coder that finishes a frame.
use Rattle.std.proofs.Common.{◌≡◌, ℕ, zero, suc, ◌<◌, ◌≤◌, false, List, [], length, replicate, ℤ, pos, Ok, sym, refl, ap, ◌∙◌, subst, arith}
use lib.ListN.{length-replicate}
use Rattle.std.proofs.lemmas.Bool.{le-ltb, lt-leb}
use Rattle.std.specs.Result.{result_and}
use Rattle.format.proofs.WriteLaws.{count_passes}
use Rattle.format.specs.Header.{read_header}
use Rattle.format.specs.Raster.{record_length}
use Rattle.format.specs.RecordWriting.{count_test}
use Rattle.format.specs.declared.raster.Raster.{Raster}
use Rattle.format.specs.declared.refusal.Refusal.TheVariants.{BlockLineCount}
use Rattle.quantizer.specs.declared.characteristic.Characteristic.{Characteristic}
use Rattle.codec.specs.Coder.{picture_length, header_written, header_length, opened_coding_on, coding_test, block_line_coded_on, with_parity}
use Rattle.codec.specs.Decoder.{Frame, new_end, reach_test, block_lines, finish_test, finish_on, Idle}
use Rattle.codec.specs.Signal.{Signal}
use Rattle.law.specs.Runs.{Sent, Written, Resting, Working, CoderRun}
use Rattle.law.proofs.Histories.{works_raster, works_done, codes}
use Rattle.law.proofs.Quiet.{quiet_front, quiet_long, quiet_usable}
use Rattle.law.proofs.Taking.{both_passed, no_refusal_if, works_reach}
use Rattle.law.proofs.Through.{header_in}

-- FM1 and FM2 with every bit 1 that is free
abbrev quiet_fm1 : ℕ
quiet_fm1 = 248

abbrev quiet_fm2 : ℕ
quiet_fm2 = 255

module _ (tops : Characteristic → ℕ) (values numbers : Characteristic → ℤ → ℤ) (r : Raster) (start : Signal) (reached : reach_test r start ≡ Ok tt) where
  abbrev Run : Frame → Signal → Sent → Type 0
  Run f s sent = CoderRun tops values numbers r start [] (Working f s sent)

  opened : (f : Frame) × (s : Signal) × (sent : Sent) × Run f s sent × (length sent.records ≡ 0)
  opened =
      let e = new_end r in
      let written = header_written e quiet_fm1 0 quiet_fm2 0 in
      let buffer = replicate {A = ℕ} header_length 0 in
      let passes : result_and (reach_test r start) (result_and (count_test header_length (length buffer)) (read_header written)) ≡ Ok (header_in written) =
      both_passed reached refl in
      (_, _, _, CoderRun.opened quiet_fm1 0 quiet_fm2 0 buffer CoderRun.new (ap (opened_coding_on e written buffer start) passes), refl)

  -- one block-line more, of an empty picture
  line_more : (f : Frame) (s : Signal) (sent : Sent) → Run f s sent → length sent.records < block_lines r
      → (f' : Frame) × (s' : Signal) × (sent' : Sent) × Run f' s' sent' × (length sent'.records ≡ suc (length sent.records))
  line_more f s sent run few =
      let known = codes tops values numbers r start run in
      let raster-is : f.raster ≡ r = works_raster tops values r start known.1 in
      let turn : f.done < block_lines f.raster =
      subst (λ x. f.done < block_lines x) (sym raster-is) (omega (arith, works_done tops values r start known.1)) in
      let front = quiet_front f.raster in
      let picture = replicate (picture_length f.raster) (pos 0) in
      let buffer = replicate {A = ℕ} (record_length f.raster) 0 in
      let passes : coding_test f front picture buffer s ≡ Ok tt =
      both_passed (works_reach tops values r start known.1)
      (both_passed (no_refusal_if _ (BlockLineCount f.done) (lt-leb _ _ turn))
      (both_passed (count_passes _ _ (quiet_long f.raster))
      (both_passed (count_passes _ _ (length-replicate (picture_length f.raster) (pos 0)))
      (both_passed (count_passes _ _ (length-replicate {A = ℕ} (record_length f.raster) 0))
      (quiet_usable f.raster f.header.sbc))))) in
      (_, _, _, CoderRun.coded front false picture buffer run (ap (block_line_coded_on tops values numbers f front false picture buffer s) passes), refl)

  lines_done : (count : ℕ) → count ≤ block_lines r → (f : Frame) × (s : Signal) × (sent : Sent) × Run f s sent × (length sent.records ≡ count)
  lines_done zero few = opened
  lines_done (suc count) few =
      let before = lines_done count (omega arith) in
      let next = line_more before.0 before.1 before.2 before.3 (omega (arith, before.4)) in
      (next.0, next.1, next.2, next.3, next.4 ∙ ap suc before.4)

  pub frame_coded : (written : List Written) × (e : Idle) × (s : Signal) × CoderRun tops values numbers r start written (Resting e s) × (1 ≤ length written)
  frame_coded =
      let whole = lines_done (block_lines r) (omega arith) in
      let f = whole.0 in
      let s = whole.1 in
      let known = codes tops values numbers r start whole.3 in
      let all : block_lines f.raster ≤ f.done =
      subst (λ x. block_lines x ≤ f.done) (sym (works_raster tops values r start known.1)) (omega (arith, works_done tops values r start known.1, whole.4)) in
      let passes : finish_test f s ≡ Ok tt =
      both_passed (works_reach tops values r start known.1) (no_refusal_if _ (BlockLineCount f.done) (le-ltb _ _ all)) in
      (_, _, _, CoderRun.finished whole.3 (ap (λ v. (with_parity (finish_on f s v).0, (finish_on f s v).1)) passes), omega arith)
