-- What a run has come to, as a function of the frames that it finished: refused calls count for nothing.
use Rattle.std.proofs.Common.{◌≡◌, ℕ, zero, suc, ◌+◌, ◌*◌, ◌<◌, ◌≤◌, ltb, leb, List, [], ◌∷◌, map, length, get_or, ℤ, Ok, sym, refl, ap, ◌∙◌, subst, zero-add, arith}
use lib.Bits.{bit_xor}
use Rattle.std.proofs.lemmas.Bool.{ltb-false, leb-false}
use Rattle.std.specs.Result.{result_and}
use Rattle.format.proofs.SoundLaws.{no_fault}
use Rattle.format.specs.Header.{read_header}
use Rattle.format.specs.Raster.{width, picture_reach, line_reach, mark_reach}
use Rattle.format.specs.Reader.{verdict}
use Rattle.format.specs.Usable.{refuse_if}
use Rattle.format.specs.declared.raster.Raster.{Raster}
use Rattle.format.specs.declared.refusal.MemoryName.TheVariants.{Picture, Background, Line, Marks}
use Rattle.format.specs.declared.refusal.Refusal.TheVariants.{BlockLineCount, MemoryReach}
use Rattle.quantizer.specs.declared.characteristic.Characteristic.{Characteristic}
use Rattle.codec.specs.Decoder.{Frame, begun, reach_test, block_lines, parity_of, top_in, Idle}
use Rattle.codec.specs.Line.{resets}
use Rattle.codec.specs.Signal.{Signal}
use Rattle.law.specs.Runs.{Sent, begun_with, with_record, counted_pels, Written, Taken, Standing, Resting, Working, CoderRun, DecoderRun}
use Rattle.law.proofs.Calls.{passed, opens, opening_leaves, opens_coding, opening_coded_leaves, takes_line, block_line_leaves, codes_line, coded_line_leaves, ended_hand, finishes, finish_leaves, coded_finish, coded_finish_leaves}
use Rattle.law.proofs.Through.{Reach, Hand, in_hand, header_in, onward_by, hand, beginning, worked, ended, through, parity_after, Usable}

-- memories that pass the test of reaches reach far enough
pub reach_passed : (r : Raster) (s : Signal) → reach_test r s ≡ Ok tt → Reach r s
reach_passed r s h =
    let pictures = refuse_if (ltb (length s.picture) (picture_reach r)) (MemoryReach Picture) in
    let backgrounds = refuse_if (ltb (length s.background) (picture_reach r)) (MemoryReach Background) in
    let lines = refuse_if (ltb (length s.line) (line_reach r)) (MemoryReach Line) in
    let marks = refuse_if (ltb (length s.marks) (mark_reach r)) (MemoryReach Marks) in
    let p1 = passed pictures (result_and backgrounds (result_and lines marks)) h in
    let p2 = passed backgrounds (result_and lines marks) p1.1 in
    let p3 = passed lines marks p2.1 in
    record {
      picture = ltb-false _ _ (no_fault _ (MemoryReach Picture) p1.0);
      background = ltb-false _ _ (no_fault _ (MemoryReach Background) p2.0);
      line = ltb-false _ _ (no_fault _ (MemoryReach Line) p3.0);
      marks = ltb-false _ _ (no_fault _ (MemoryReach Marks) p3.1);
    }

abbrev pub sent_by : List Written → List Sent
sent_by = map (λ w. w.sent)

abbrev pub sent_to : List Taken → List Sent
sent_to = map (λ t. t.sent)

-- what stays and what is counted over block-lines
pub record Counts (a b : Frame) (n : ℕ) : Type 0 where
  pub raster_same : b.raster ≡ a.raster
  pub header_same : b.header ≡ a.header
  pub done_more : b.done ≡ a.done + n

module _ (tops : Characteristic → ℕ) (values : Characteristic → ℤ → ℤ) where
  pub hand_counts : (records : List (List ℕ)) (b : Hand) → Counts b.frame (hand tops values records b).frame (length records)
  unfolding onward_by
  hand_counts [] b = record { raster_same = refl; header_same = refl; done_more = omega arith }
  hand_counts (bytes ∷ older) b =
      let before = hand_counts older b in
      record { raster_same = before.raster_same; header_same = before.header_same; done_more = omega (arith, before.done_more) }

  module _ (r : Raster) (start : Signal) where
    -- an end at rest
    pub record Rests (frames : List Sent) (e : Idle) (s : Signal) : Type 0 where
      pub signal_is : s ≡ through tops values r frames start
      pub end_is : e ≡ record { raster = r; parity = parity_after tops values r frames start }

    -- an end with a frame in hand
    pub record Works (frames : List Sent) (f : Frame) (s : Signal) (sent : Sent) : Type 0 where
      pub hand_is : in_hand f s ≡ worked tops values r sent (through tops values r frames start)
      pub reads : read_header sent.header ≡ Ok (header_in sent.header)
      pub reach : Reach r (through tops values r frames start)
      pub in_turn : length sent.records ≤ block_lines r

    works_counts : {frames : List Sent} {f : Frame} {s : Signal} {sent : Sent} → Works frames f s sent
        → Counts (begun r (header_in sent.header)) f (length sent.records)
    unfolding worked
    works_counts {frames} {f} {s} {sent} w =
        let is : f ≡ (hand tops values sent.records (beginning tops values r sent (through tops values r frames start))).frame = ap (λ b. b.frame) w.hand_is in
        subst (λ x. Counts (begun r (header_in sent.header)) x (length sent.records)) (sym is)
        (hand_counts sent.records (beginning tops values r sent (through tops values r frames start)))

    pub works_raster : {frames : List Sent} {f : Frame} {s : Signal} {sent : Sent} → Works frames f s sent → f.raster ≡ r
    works_raster w = (works_counts w).raster_same

    pub works_header : {frames : List Sent} {f : Frame} {s : Signal} {sent : Sent} → Works frames f s sent → f.header ≡ header_in sent.header
    works_header w = (works_counts w).header_same

    pub works_done : {frames : List Sent} {f : Frame} {s : Signal} {sent : Sent} → Works frames f s sent → f.done ≡ length sent.records
    works_done {sent = sent} w = (works_counts w).done_more ∙ zero-add (length sent.records)

    -- a new end, and an opened one
    rests_new : Rests [] (record { raster = r; parity = 255 }) start
    rests_new = record { signal_is = refl; end_is = refl }

    rests_still : {frames : List Sent} {e e' : Idle} {s s' : Signal} → Rests frames e s → (e' ≡ e) × (s' ≡ s) → Rests frames e' s'
    rests_still k same = record { signal_is = same.1 ∙ k.signal_is; end_is = same.0 ∙ k.end_is }

    works_still : {frames : List Sent} {f f' : Frame} {s s' : Signal} {sent : Sent} → Works frames f s sent → (f' ≡ f) × (s' ≡ s) → Works frames f' s' sent
    works_still w same =
        record { hand_is = (λ i. in_hand (same.0 i) (same.1 i)) ∙ w.hand_is; reads = w.reads; reach = w.reach; in_turn = w.in_turn }

    works_begun : {frames : List Sent} {e : Idle} {s s' : Signal} {f : Frame} (header : List ℕ) → Rests frames e s
        → reach_test e.raster s ≡ Ok tt → read_header header ≡ Ok (header_in header) → f ≡ begun e.raster (header_in header)
        → s' ≡ resets (7 * width e.raster) s → Works frames f s' (begun_with header)
    unfolding worked
    works_begun {frames} {e} {s} {s'} {f} header k reached reads frame_is signal_is =
        let raster-is : e.raster ≡ r = ap (λ x. x.raster) k.end_is in
        let f-is : f ≡ begun r (header_in header) = frame_is ∙ ap (λ x. begun x (header_in header)) raster-is in
        let s-is : s' ≡ resets (7 * width r) (through tops values r frames start) =
        signal_is ∙ ap (λ x. resets (7 * width x) s) raster-is ∙ ap (resets (7 * width r)) k.signal_is in
        record {
          hand_is = λ i. in_hand (f-is i) (s-is i);
          reads = reads;
          reach = reach_passed r _ (ap (λ x. reach_test r x) (sym k.signal_is) ∙ ap (λ x. reach_test x s) (sym raster-is) ∙ reached);
          in_turn = omega arith;
        }

    works_more : {frames : List Sent} {f f' : Frame} {s s' : Signal} {sent : Sent} (bytes : List ℕ) → Works frames f s sent
        → refuse_if (leb (block_lines f.raster) f.done) (BlockLineCount f.done) ≡ Ok tt
        → in_hand f' s' ≡ onward_by tops values bytes (in_hand f s) → Works frames f' s' (with_record bytes sent)
    unfolding worked
    works_more {frames} {f} {s} {sent = sent} bytes w turn is =
        let more : f.done < block_lines f.raster = leb-false _ _ (no_fault _ (BlockLineCount f.done) turn) in
        let here : f.raster ≡ r = works_raster w in
        let more' : f.done < block_lines r = subst (λ x. f.done < block_lines x) here more in
        let count = works_done w in
        record {
          hand_is = is ∙ ap (onward_by tops values bytes) w.hand_is;
          reads = w.reads;
          reach = w.reach;
          in_turn = omega arith;
        }

    -- a finish that is accepted comes after the last block-line
    works_full : {frames : List Sent} {f : Frame} {s : Signal} {sent : Sent} → Works frames f s sent
        → refuse_if (ltb f.done (block_lines f.raster)) (BlockLineCount f.done) ≡ Ok tt → length sent.records ≡ block_lines r
    works_full {f = f} w h =
        let all : block_lines f.raster ≤ f.done = ltb-false _ _ (no_fault _ (BlockLineCount f.done) h) in
        let all' : block_lines r ≤ f.done = subst (λ x. block_lines x ≤ f.done) (works_raster w) all in
        let count = works_done w in
        let most = w.in_turn in
        omega arith

    pub works_ended : {frames : List Sent} {f : Frame} {s : Signal} {sent : Sent} → Works frames f s sent
        → ended_hand (in_hand f s) ≡ ended tops values r sent (through tops values r frames start)
    unfolding ended
    works_ended w = ap ended_hand w.hand_is

    rests_ended : {frames : List Sent} {f : Frame} {s s' : Signal} {sent : Sent} {e : Idle} → Works frames f s sent
        → e ≡ record { raster = f.raster; parity = parity_of (ended_hand (in_hand f s)).tally } → s' ≡ (ended_hand (in_hand f s)).signal
        → Rests (sent ∷ frames) e s'
    rests_ended {f = f} {s} w end_is signal_is =
        let over = works_ended w in
        let raster-is = works_raster w in
        record {
          signal_is = signal_is ∙ ap (λ c. c.signal) over;
          end_is = end_is ∙ (λ i. record { raster = raster-is i; parity = parity_of (over i).tally });
        }

    -- what is known of a frame that a decoder took, after older ones
    pub record TookFrame (t : Taken) (older : List Sent) : Type 0 where
      pub usable : Usable tops values r t.sent
      pub reach : Reach r (through tops values r older start)
      pub planes_are : t.planes ≡ bit_xor (header_in t.sent.header).parity (parity_after tops values r older start)
      pub parity_is : t.parity ≡ parity_after tops values r (t.sent ∷ older) start
      pub held_is : t.held ≡ (ended tops values r t.sent (through tops values r older start)).tally.held
      pub pels_are : t.pels ≡ counted_pels r (through tops values r (t.sent ∷ older) start).picture

    abbrev pub TookAll : List Taken → Type 0
    TookAll [] = Unit {0}
    TookAll (t ∷ older) = TookFrame t (sent_to older) × TookAll older

    -- the records of a frame in hand, each usable
    abbrev pub EachUsable : Sent → Type 0
    EachUsable sent =
        (i : ℕ) → i < length sent.records
        → verdict r (header_in sent.header).sbc (top_in tops (get_or sent.records i [])) (get_or sent.records i []) ≡ Ok tt

    abbrev pub Decodes : List Taken → Standing (Sent × ℕ) → Type 0
    Decodes taken (Resting e s) = TookAll taken × Rests (sent_to taken) e s
    Decodes taken (Working f s work) =
        TookAll taken × Works (sent_to taken) f s work.0 × EachUsable work.0
        × (work.1 ≡ bit_xor (header_in work.0.header).parity (parity_after tops values r (sent_to taken) start))

    pub each_more : (bytes : List ℕ) (sent : Sent) (header : List ℕ) → header ≡ sent.header
        → verdict r (header_in header).sbc (top_in tops bytes) bytes ≡ Ok tt → EachUsable sent → EachUsable (with_record bytes sent)
    each_more bytes sent header same here each zero h = ap (λ x. verdict r (header_in x).sbc (top_in tops bytes) bytes) (sym same) ∙ here
    each_more bytes sent header same here each (suc i) h = each i (omega arith)

    pub decodes : {taken : List Taken} {at : Standing (Sent × ℕ)} → DecoderRun tops values r start taken at → Decodes taken at
    decodes DecoderRun.new = (tt, rests_new)
    decodes (DecoderRun.opened {e = e} {s = s} {s' = s'} {f = f} {planes = planes} header run q) =
        let before = decodes run in
        let o = opens e header s s' f planes q in (
          before.0,
          works_begun header before.1 o.reached o.reads o.frame_is o.signal_is,
          (λ i h. absurd (omega arith)),
          o.planes_are ∙ ap (λ x. bit_xor (header_in header).parity x.parity) before.1.end_is,
        )
    decodes (DecoderRun.opening_refused {e = e} {s = s} {s' = s'} {refusal = x} header run q) =
        let before = decodes run in
        (before.0, rests_still before.1 (opening_leaves e header s s' x q))
    decodes (DecoderRun.decoded {f = f} {f' = f'} {s = s} {s' = s'} {sent = sent} bytes run q) =
        let before = decodes run in
        let o = takes_line tops values f bytes s f' s' q in
        let raster-is = works_raster before.1 in
        let header_is = works_header before.1 in
        let use' : verdict r (header_in sent.header).sbc (top_in tops bytes) bytes ≡ Ok tt =
        ap (λ x. verdict r x.sbc (top_in tops bytes) bytes) (sym header_is)
        ∙ ap (λ x. verdict x f.header.sbc (top_in tops bytes) bytes) (sym raster-is) ∙ o.usable in
        (before.0, works_more bytes before.1 o.turn o.hand_is, each_more bytes sent sent.header refl use' before.2, before.3)
    decodes (DecoderRun.block_line_refused {f = f} {s = s} {s' = s'} {refusal = x} bytes run q) =
        let before = decodes run in
        (before.0, works_still before.1 (block_line_leaves tops values f bytes s s' x q), before.2, before.3)
    decodes (DecoderRun.finished {f = f} {s = s} {s' = s'} {sent = sent} {planes = planes} {done = done} run q) =
        let before = decodes run in
        let o = finishes f s s' done q in
        let over = works_ended before.1 in
        let rest = rests_ended before.1 o.end_is o.signal_is in (
          (
            record {
              usable = record { reads = before.1.reads; full = works_full before.1 o.all_done; each = before.2 };
              reach = before.1.reach;
              planes_are = before.3;
              parity_is = o.parity_is ∙ ap (λ c. parity_of c.tally) over;
              held_is = o.held_is ∙ ap (λ c. c.tally.held) over;
              pels_are = ap (λ x. counted_pels r x.picture) rest.signal_is;
            },
            before.0,
          ),
          rest,
        )
    decodes (DecoderRun.finish_refused {f = f} {s = s} {s' = s'} {refusal = x} run q) =
        let before = decodes run in
        (before.0, works_still before.1 (finish_leaves f s s' x q), before.2, before.3)

  -- what is known of a frame that a coder wrote, after older ones
  pub record WroteFrame (r : Raster) (start : Signal) (w : Written) (older : List Sent) : Type 0 where
    pub reads : read_header w.sent.header ≡ Ok (header_in w.sent.header)
    pub full : length w.sent.records ≡ block_lines r
    pub reach : Reach r (through tops values r older start)
    pub parity_is : w.parity ≡ parity_after tops values r (w.sent ∷ older) start
    pub begins : (header_in w.sent.header).parity ≡ parity_after tops values r older start
    pub pels_are : w.pels ≡ counted_pels r (through tops values r (w.sent ∷ older) start).picture

  abbrev pub WroteAll : Raster → Signal → List Written → Type 0
  WroteAll r start [] = Unit {0}
  WroteAll r start (w ∷ older) = WroteFrame r start w (sent_by older) × WroteAll r start older

  abbrev pub Codes : Raster → Signal → List Written → Standing Sent → Type 0
  Codes r start written (Resting e s) = WroteAll r start written × Rests r start (sent_by written) e s
  Codes r start written (Working f s sent) =
      WroteAll r start written × Works r start (sent_by written) f s sent
      × ((header_in sent.header).parity ≡ parity_after tops values r (sent_by written) start)

  module _ (numbers : Characteristic → ℤ → ℤ) (r : Raster) (start : Signal) where
    pub codes : {written : List Written} {at : Standing Sent} → CoderRun tops values numbers r start written at → Codes r start written at
    codes CoderRun.new = (tt, rests_new r start)
    codes (CoderRun.opened {e = e} {s = s} {s' = s'} {f = f} {header = header} fm1 bc fm2 fc buffer run q) =
        let before = codes run in
        let o = opens_coding e fm1 bc fm2 fc buffer header s s' f q in
        (before.0, works_begun r start header before.1 o.reached o.reads o.frame_is o.signal_is, o.begins ∙ ap (λ x. x.parity) before.1.end_is)
    codes (CoderRun.opening_refused {e = e} {s = s} {s' = s'} {refusal = x} {left = left} fm1 bc fm2 fc buffer run q) =
        let before = codes run in
        (before.0, rests_still r start before.1 (opening_coded_leaves e fm1 bc fm2 fc buffer left s s' x q))
    codes (CoderRun.coded {f = f} {f' = f'} {s = s} {s' = s'} {bytes = bytes} front stop picture buffer run q) =
        let before = codes run in
        let o = codes_line tops values numbers f front stop picture buffer s f' bytes s' q in
        (before.0, works_more r start bytes before.1 o.turn o.hand_is, before.2)
    codes (CoderRun.block_line_refused {f = f} {s = s} {s' = s'} {refusal = x} {left = left} front stop picture buffer run q) =
        let before = codes run in
        (before.0, works_still r start before.1 (coded_line_leaves tops values numbers f front stop picture buffer left s s' x q), before.2)
    codes (CoderRun.finished {f = f} {s = s} {s' = s'} {e = e} {parity = parity} run q) =
        let before = codes run in
        let o = (coded_finish f s s' e parity q).1 in
        let over = works_ended r start before.1 in
        let rest = rests_ended r start before.1 o.end_is o.signal_is in (
          (
            record {
              reads = before.1.reads;
              full = works_full r start before.1 o.all_done;
              reach = before.1.reach;
              parity_is = o.parity_is ∙ ap (λ c. parity_of c.tally) over;
              begins = before.2;
              pels_are = ap (λ x. counted_pels r x.picture) rest.signal_is;
            },
            before.0,
          ),
          rest,
        )
    codes (CoderRun.finish_refused {f = f} {s = s} {s' = s'} {refusal = x} run q) =
        let before = codes run in
        (before.0, works_still r start before.1 (coded_finish_leaves f s s' x q), before.2)
