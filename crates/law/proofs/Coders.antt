-- What stays true of a coder's memories over a whole run, and that what it wrote is usable.
use Rattle.std.proofs.Common.{◌≡◌, ℕ, ◌*◌, Bool, List, [], ◌∷◌, ℤ, Ok, sym, refl, ap, ◌∙◌, subst, arith}
use Rattle.format.specs.Raster.{width}
use Rattle.format.specs.Reader.{verdict}
use Rattle.format.specs.declared.raster.Raster.{Raster}
use Rattle.quantizer.specs.declared.characteristic.Characteristic.{Characteristic}
use Rattle.codec.specs.Decoder.{Frame, flushed, next_course, top_in}
use Rattle.codec.specs.Line.{resets}
use Rattle.codec.specs.Signal.{Signal}
use Rattle.codec.specs.Step.{course}
use Rattle.law.specs.Runs.{Sent, Written, Standing, Resting, Working, CoderRun}
use Rattle.law.proofs.Calls.{CodesLine, codes_line, opens_coding, opening_coded_leaves, coded_line_leaves, coded_finish, coded_finish_leaves}
use Rattle.law.proofs.Histories.{sent_by, EachUsable, each_more, works_header, works_raster, works_ended, codes}
use Rattle.law.proofs.Through.{header_in, onward_by, ended, through}

module _ (tops : Characteristic → ℕ) (values numbers : Characteristic → ℤ → ℤ) (r : Raster) (start : Signal)
    -- what the memories keep, from reset lines, coded block-lines and the flush of a last line
    (Good : Signal → Type 0)
    (good-resets : (n : ℕ) (s : Signal) → Good s → Good (resets n s))
    (good-coded : (f f' : Frame) (front : List ℕ) (stop : Bool) (picture : List ℤ) (s s' : Signal) (bytes : List ℕ)
    → CodesLine tops values numbers f front stop picture s f' bytes s' → Good s
    → Good (next_course tops values f bytes s).signal
    × ((next_course tops values f bytes s).tally.held ≡ f.tally.held)
    × (verdict f.raster f.header.sbc (top_in tops bytes) bytes ≡ Ok tt))
    (good-flushed : (f : Frame) (s : Signal) → Good s
    → Good (flushed f (course s f.tally)).signal × ((flushed f (course s f.tally)).tally.held ≡ f.tally.held))
  where
    -- a frame that a coder wrote: its records are usable, and its pels were never held
    pub record Fine (w : Written) (older : List Sent) : Type 0 where
      pub each : EachUsable tops values r start w.sent
      pub none_held : (ended tops values r w.sent (through tops values r older start)).tally.held ≡ 0

    abbrev pub FineAll : List Written → Type 0
    FineAll [] = Unit {0}
    FineAll (w ∷ older) = Fine w (sent_by older) × FineAll older

    abbrev pub Keeps : List Written → Standing Sent → Type 0
    Keeps written (Resting e s) = FineAll written × Good s
    Keeps written (Working f s sent) = FineAll written × Good s × (f.tally.held ≡ 0) × EachUsable tops values r start sent

    pub keeps : {written : List Written} {at : Standing Sent} → CoderRun tops values numbers r start written at → Good start → Keeps written at
    unfolding onward_by
    keeps CoderRun.new good = (tt, good)
    keeps (CoderRun.opened {e = e} {s = s} {s' = s'} {f = f} {header = header} fm1 bc fm2 fc buffer run q) good =
        let before = keeps run good in
        let o = opens_coding e fm1 bc fm2 fc buffer header s s' f q in (
          before.0,
          subst Good (sym o.signal_is) (good-resets (7 * width e.raster) s before.1),
          ap (λ x. x.tally.held) o.frame_is,
          (λ i h. absurd (omega arith)),
        )
    keeps (CoderRun.opening_refused {e = e} {s = s} {s' = s'} {refusal = x} {left = left} fm1 bc fm2 fc buffer run q) good =
        let before = keeps run good in
        let same = opening_coded_leaves e fm1 bc fm2 fc buffer left s s' x q in
        (before.0, subst Good (sym same.1) before.1)
    keeps (CoderRun.coded {f = f} {f' = f'} {s = s} {s' = s'} {sent = sent} {bytes = bytes} front stop picture buffer run q) good =
        let before = keeps run good in
        let known = codes tops values numbers r start run in
        let o = codes_line tops values numbers f front stop picture buffer s f' bytes s' q in
        let after = good-coded f f' front stop picture s s' bytes o before.1 in
        let raster-is = works_raster tops values r start known.1 in
        let header_is = works_header tops values r start known.1 in
        let use' : verdict r (header_in sent.header).sbc (top_in tops bytes) bytes ≡ Ok tt =
        ap (λ x. verdict r x.sbc (top_in tops bytes) bytes) (sym header_is)
        ∙ ap (λ x. verdict x f.header.sbc (top_in tops bytes) bytes) (sym raster-is) ∙ after.2 in (
          before.0,
          subst Good (sym (ap (λ b. b.signal) o.hand_is)) after.0,
          ap (λ b. b.frame.tally.held) o.hand_is ∙ after.1 ∙ before.2,
          each_more tops values r start bytes sent sent.header refl use' before.3,
        )
    keeps (CoderRun.block_line_refused {f = f} {s = s} {s' = s'} {refusal = x} {left = left} front stop picture buffer run q) good =
        let before = keeps run good in
        let same = coded_line_leaves tops values numbers f front stop picture buffer left s s' x q in
        (before.0, subst Good (sym same.1) before.1, ap (λ y. y.tally.held) same.0 ∙ before.2, before.3)
    keeps (CoderRun.finished {f = f} {s = s} {s' = s'} {e = e} {parity = parity} run q) good =
        let before = keeps run good in
        let known = codes tops values numbers r start run in
        let o = (coded_finish f s s' e parity q).1 in
        let after = good-flushed f s before.1 in
        let over = works_ended tops values r start known.1 in (
          (record { each = before.3; none_held = ap (λ c. c.tally.held) (sym over) ∙ after.1 ∙ before.2 }, before.0),
          subst Good (sym o.signal_is) after.0,
        )
    keeps (CoderRun.finish_refused {f = f} {s = s} {s' = s'} {refusal = x} run q) good =
        let before = keeps run good in
        let same = coded_finish_leaves f s s' x q in
        (before.0, subst Good (sym same.1) before.1, ap (λ y. y.tally.held) same.0 ∙ before.2, before.3)
