-- What an accepted call and a refused call say, from the outcome that its contract defines.
use Rattle.std.proofs.Common.{◌≡◌, ℕ, ◌*◌, Bool, true, false, cond, not, eqb, ltb, leb, List, length, get_or, ℤ, Ok, Err, Result, sym, refl, ap, ◌∙◌, arith}
use lib.Bits.{bit_xor}
use Rattle.std.specs.Result.{result_and}
use Rattle.format.specs.Front.{front_length}
use Rattle.format.specs.Header.{fm1_fixed, fm2_fixed, header_of, five_bytes, read_header}
use Rattle.format.specs.Raster.{width, record_length}
use Rattle.format.specs.Reader.{verdict}
use Rattle.format.specs.RecordWriting.{count_test}
use Rattle.format.specs.Usable.{Verdict, refuse_if, front_usable}
use Rattle.format.specs.declared.header.Header.{Header}
use Rattle.format.specs.declared.refusal.Refusal.{Refusal}
use Rattle.format.specs.declared.refusal.HeaderByte.TheVariants.{Fm1, Fm2}
use Rattle.format.specs.declared.refusal.Refusal.TheVariants.{WrongLength, FixedHeaderBit}
use Rattle.quantizer.specs.declared.characteristic.Characteristic.{Characteristic}
use Rattle.codec.specs.Coder.{header_written, header_length, opened_coding_on, opening_coded, picture_length, coding_test, record_written, block_line_coded_on, block_line_coded, with_parity, finish_coded}
use Rattle.codec.specs.Decoder.{Frame, begun, reach_test, opened_on, opening, block_lines, record_test, top_in, block_line_on, block_line, finish_test, flushed, parity_of, finish_on, finish, Finished, Idle}
use Rattle.codec.specs.Line.{resets}
use Rattle.codec.specs.Signal.{Signal}
use Rattle.codec.specs.Step.{Course, course}
use Rattle.codec.specs.declared.end.Refused.{Refused}
use Rattle.law.proofs.Through.{header_in, Hand, in_hand, onward_by}

-- an answer is not a refusal
pub no_refusal : {T E X : Type 0} {x : T} {y : E} → Ok x ≡ Err y → X
no_refusal e = let z : ◌≡◌ {A = ℕ} 0 1 = cc in absurd (omega arith)

pub ok_same : {T E : Type 0} {x y : T} → ◌≡◌ {A = Result T E} (Ok x) (Ok y) → x ≡ y
ok_same e = cc

pub err_same : {T E : Type 0} {x y : E} → ◌≡◌ {A = Result T E} (Err x) (Err y) → x ≡ y
err_same e = cc

-- a test and what follows it both pass
pub passed : {T E : Type 0} (v : Result (Unit {0}) E) (w : Result T E) {x : T} → result_and v w ≡ Ok x → (v ≡ Ok tt) × (w ≡ Ok x)
passed (Ok t) w h = (refl, h)
passed (Err e) w h = no_refusal (sym h)

-- a header that is read has the fields of its five bytes
five_read : (pt fm1 bc fm2 fc : ℕ) (h : Header) → five_bytes pt fm1 bc fm2 fc ≡ Ok h → h ≡ header_of pt fm1 bc fm2 fc
five_read pt fm1 bc fm2 fc h e = go (fm1_fixed fm1) (fm2_fixed fm2) e
  where
    go : (a b : Bool) → cond (not a) (Err (FixedHeaderBit Fm1)) (cond (not b) (Err (FixedHeaderBit Fm2)) (Ok (header_of pt fm1 bc fm2 fc))) ≡ Ok h → h ≡ header_of pt fm1 bc fm2 fc
    go true true q = sym (ok_same q)
    go true false q = no_refusal (sym q)
    go false b q = no_refusal (sym q)

pub header_read : (bytes : List ℕ) (h : Header) → read_header bytes ≡ Ok h → h ≡ header_in bytes
header_read bytes h e = go (eqb (length bytes) 5) e
  where
    five : Result Header Refusal
    five = five_bytes (get_or bytes 0 0) (get_or bytes 1 0) (get_or bytes 2 0) (get_or bytes 3 0) (get_or bytes 4 0)

    go : (b : Bool) → cond b five (Err (WrongLength (length bytes))) ≡ Ok h → h ≡ header_in bytes
    go true q = five_read _ _ _ _ _ h q
    go false q = no_refusal (sym q)

-- OPENING of a decoder
pub record Opens (e : Idle) (bytes : List ℕ) (s : Signal) (f : Frame) (planes : ℕ) (s' : Signal) : Type 0 where
  pub reached : reach_test e.raster s ≡ Ok tt
  pub reads : read_header bytes ≡ Ok (header_in bytes)
  pub frame_is : f ≡ begun e.raster (header_in bytes)
  pub planes_are : planes ≡ bit_xor (header_in bytes).parity e.parity
  pub signal_is : s' ≡ resets (7 * width e.raster) s

pub opens : (e : Idle) (bytes : List ℕ) (s s' : Signal) (f : Frame) (planes : ℕ) → opening e bytes s ≡ (Ok (f, planes), s') → Opens e bytes s f planes s'
opens e bytes s s' f planes q = go (result_and (reach_test e.raster s) (read_header bytes)) refl q
  where
    go : (v : Result Header Refusal) → result_and (reach_test e.raster s) (read_header bytes) ≡ v → opened_on e s v ≡ (Ok (f, planes), s') → Opens e bytes s f planes s'
    go (Err why) p q = no_refusal (sym (ap (λ x. x.0) q))
    go (Ok h) p q =
        let both = passed (reach_test e.raster s) (read_header bytes) p in
        let is = header_read bytes h both.1 in
        let pair = ok_same (ap (λ x. x.0) q) in
        record {
          reached = both.0;
          reads = both.1 ∙ ap Ok is;
          frame_is = sym (ap (λ x. x.0) pair) ∙ ap (begun e.raster) is;
          planes_are = sym (ap (λ x. x.1) pair) ∙ ap (λ x. bit_xor x.parity e.parity) is;
          signal_is = sym (ap (λ x. x.1) q);
        }

pub opening_leaves : (e : Idle) (bytes : List ℕ) (s s' : Signal) (x : Refused Idle) → opening e bytes s ≡ (Err x, s') → (x.end ≡ e) × (s' ≡ s)
opening_leaves e bytes s s' x q = go (result_and (reach_test e.raster s) (read_header bytes)) q
  where
    go : (v : Result Header Refusal) → opened_on e s v ≡ (Err x, s') → (x.end ≡ e) × (s' ≡ s)
    go (Err why) q = (sym (ap (λ y. y.end) (err_same (ap (λ y. y.0) q))), sym (ap (λ y. y.1) q))
    go (Ok h) q = no_refusal (ap (λ y. y.0) q)

-- OPENING of a coder
pub record OpensCoding (e : Idle) (s : Signal) (f : Frame) (header : List ℕ) (s' : Signal) : Type 0 where
  pub reached : reach_test e.raster s ≡ Ok tt
  pub reads : read_header header ≡ Ok (header_in header)
  pub begins : (header_in header).parity ≡ e.parity
  pub frame_is : f ≡ begun e.raster (header_in header)
  pub signal_is : s' ≡ resets (7 * width e.raster) s

pub opens_coding : (e : Idle) (fm1 bc fm2 fc : ℕ) (buffer header : List ℕ) (s s' : Signal) (f : Frame)
    → opening_coded e fm1 bc fm2 fc buffer s ≡ (Ok f, header, s') → OpensCoding e s f header s'
opens_coding e fm1 bc fm2 fc buffer header s s' f q =
    go (result_and (reach_test e.raster s) (result_and (count_test header_length (length buffer)) (read_header (header_written e fm1 bc fm2 fc)))) refl q
  where
    written : List ℕ
    written = header_written e fm1 bc fm2 fc

    go : (v : Result Header Refusal)
        → result_and (reach_test e.raster s) (result_and (count_test header_length (length buffer)) (read_header (header_written e fm1 bc fm2 fc))) ≡ v
        → opened_coding_on e (header_written e fm1 bc fm2 fc) buffer s v ≡ (Ok f, header, s') → OpensCoding e s f header s'
    go (Err why) p q = no_refusal (sym (ap (λ x. x.0) q))
    go (Ok h) p q =
        let first = passed (reach_test e.raster s) (result_and (count_test header_length (length buffer)) (read_header (header_written e fm1 bc fm2 fc))) p in
        let second = passed (count_test header_length (length buffer)) (read_header (header_written e fm1 bc fm2 fc)) first.1 in
        let is = header_read (header_written e fm1 bc fm2 fc) h second.1 in
        let same : header_written e fm1 bc fm2 fc ≡ header = ap (λ x. x.1) q in
        record {
          reached = first.0;
          reads = ap read_header (sym same) ∙ second.1 ∙ ap Ok (is ∙ ap header_in same);
          begins = ap (λ x. (header_in x).parity) (sym same);
          frame_is = sym (ok_same (ap (λ x. x.0) q)) ∙ ap (begun e.raster) (is ∙ ap header_in same);
          signal_is = sym (ap (λ x. x.2) q);
        }

pub opening_coded_leaves : (e : Idle) (fm1 bc fm2 fc : ℕ) (buffer left : List ℕ) (s s' : Signal) (x : Refused Idle)
    → opening_coded e fm1 bc fm2 fc buffer s ≡ (Err x, left, s') → (x.end ≡ e) × (s' ≡ s)
opening_coded_leaves e fm1 bc fm2 fc buffer left s s' x q =
    go (result_and (reach_test e.raster s) (result_and (count_test header_length (length buffer)) (read_header (header_written e fm1 bc fm2 fc)))) q
  where
    go : (v : Result Header Refusal) → opened_coding_on e (header_written e fm1 bc fm2 fc) buffer s v ≡ (Err x, left, s') → (x.end ≡ e) × (s' ≡ s)
    go (Err why) q = (sym (ap (λ y. y.end) (err_same (ap (λ y. y.0) q))), sym (ap (λ y. y.2) q))
    go (Ok h) q = no_refusal (ap (λ y. y.0) q)

module _ (tops : Characteristic → ℕ) (values : Characteristic → ℤ → ℤ) where
  -- BLOCK-LINE of a decoder
  pub record TakesLine (f : Frame) (bytes : List ℕ) (s : Signal) (f' : Frame) (s' : Signal) : Type 0 where
    pub turn : refuse_if (leb (block_lines f.raster) f.done) (Refusal.BlockLineCount f.done) ≡ Ok tt
    pub usable : verdict f.raster f.header.sbc (top_in tops bytes) bytes ≡ Ok tt
    pub hand_is : in_hand f' s' ≡ onward_by tops values bytes (in_hand f s)

  pub takes_line : (f : Frame) (bytes : List ℕ) (s : Signal) (f' : Frame) (s' : Signal)
      → block_line tops values f bytes s ≡ (Ok f', s') → TakesLine f bytes s f' s'
  unfolding onward_by
  takes_line f bytes s f' s' q = go (record_test tops values f bytes s) refl q
    where
      go : (v : Verdict) → record_test tops values f bytes s ≡ v → block_line_on tops values f bytes s v ≡ (Ok f', s') → TakesLine f bytes s f' s'
      go (Err why) p q = no_refusal (sym (ap (λ x. x.0) q))
      go (Ok t) p q =
          let count = refuse_if (leb (block_lines f.raster) f.done) (Refusal.BlockLineCount f.done) in
          let use' = verdict f.raster f.header.sbc (top_in tops bytes) bytes in
          let first = passed (reach_test f.raster s) (result_and count use') p in
          let second = passed count use' first.1 in
          let frame_is = ok_same (ap (λ x. x.0) q) in
          let signal_is = ap (λ x. x.1) q in
          record { turn = second.0; usable = second.1; hand_is = sym (λ i. record { frame = frame_is i; signal = signal_is i }) }

  pub block_line_leaves : (f : Frame) (bytes : List ℕ) (s s' : Signal) (x : Refused Frame)
      → block_line tops values f bytes s ≡ (Err x, s') → (x.end ≡ f) × (s' ≡ s)
  block_line_leaves f bytes s s' x q = go (record_test tops values f bytes s) q
    where
      go : (v : Verdict) → block_line_on tops values f bytes s v ≡ (Err x, s') → (x.end ≡ f) × (s' ≡ s)
      go (Err why) q = (sym (ap (λ y. y.end) (err_same (ap (λ y. y.0) q))), sym (ap (λ y. y.1) q))
      go (Ok t) q = no_refusal (ap (λ y. y.0) q)

module _ (tops : Characteristic → ℕ) (values numbers : Characteristic → ℤ → ℤ) where
  -- BLOCK-LINE of a coder
  pub record CodesLine (f : Frame) (front : List ℕ) (stop : Bool) (picture : List ℤ) (s : Signal) (f' : Frame) (bytes : List ℕ) (s' : Signal) : Type 0 where
    pub turn : refuse_if (leb (block_lines f.raster) f.done) (Refusal.BlockLineCount f.done) ≡ Ok tt
    pub front_long : count_test (front_length f.raster) (length front) ≡ Ok tt
    pub picture_long : count_test (picture_length f.raster) (length picture) ≡ Ok tt
    pub usable : front_usable f.raster f.header.sbc front ≡ Ok tt
    pub bytes_are : bytes ≡ record_written tops values numbers f front stop picture s
    pub hand_is : in_hand f' s' ≡ onward_by tops values bytes (in_hand f s)

  pub codes_line : (f : Frame) (front : List ℕ) (stop : Bool) (picture : List ℤ) (buffer : List ℕ) (s : Signal) (f' : Frame) (bytes : List ℕ) (s' : Signal)
      → block_line_coded tops values numbers f front stop picture buffer s ≡ (Ok f', bytes, s') → CodesLine f front stop picture s f' bytes s'
  unfolding onward_by
  codes_line f front stop picture buffer s f' bytes s' q = go (coding_test f front picture buffer s) refl q
    where
      go : (v : Verdict) → coding_test f front picture buffer s ≡ v → block_line_coded_on tops values numbers f front stop picture buffer s v ≡ (Ok f', bytes, s')
          → CodesLine f front stop picture s f' bytes s'
      go (Err why) p q = no_refusal (sym (ap (λ x. x.0) q))
      go (Ok t) p q =
          let count = refuse_if (leb (block_lines f.raster) f.done) (Refusal.BlockLineCount f.done) in
          let fronts = count_test (front_length f.raster) (length front) in
          let pictures = count_test (picture_length f.raster) (length picture) in
          let buffers = count_test (record_length f.raster) (length buffer) in
          let use' = front_usable f.raster f.header.sbc front in
          let p1 = passed (reach_test f.raster s) (result_and count (result_and fronts (result_and pictures (result_and buffers use')))) p in
          let p2 = passed count (result_and fronts (result_and pictures (result_and buffers use'))) p1.1 in
          let p3 = passed fronts (result_and pictures (result_and buffers use')) p2.1 in
          let p4 = passed pictures (result_and buffers use') p3.1 in
          let p5 = passed buffers use' p4.1 in
          let written = record_written tops values numbers f front stop picture s in
          let same : written ≡ bytes = ap (λ x. x.1) q in
          let frame_is = ok_same (ap (λ x. x.0) q) in
          let signal_is = ap (λ x. x.2) q in
          let there : onward_by tops values written (in_hand f s) ≡ in_hand f' s' = λ i. record { frame = frame_is i; signal = signal_is i } in
          record {
            turn = p2.0;
            front_long = p3.0;
            picture_long = p4.0;
            usable = p5.1;
            bytes_are = sym same;
            hand_is = sym there ∙ ap (λ x. onward_by tops values x (in_hand f s)) same;
          }

  pub coded_line_leaves : (f : Frame) (front : List ℕ) (stop : Bool) (picture : List ℤ) (buffer left : List ℕ) (s s' : Signal) (x : Refused Frame)
      → block_line_coded tops values numbers f front stop picture buffer s ≡ (Err x, left, s') → (x.end ≡ f) × (s' ≡ s)
  coded_line_leaves f front stop picture buffer left s s' x q = go (coding_test f front picture buffer s) q
    where
      go : (v : Verdict) → block_line_coded_on tops values numbers f front stop picture buffer s v ≡ (Err x, left, s') → (x.end ≡ f) × (s' ≡ s)
      go (Err why) q = (sym (ap (λ y. y.end) (err_same (ap (λ y. y.0) q))), sym (ap (λ y. y.2) q))
      go (Ok t) q = no_refusal (ap (λ y. y.0) q)

-- FINISH
abbrev pub ended_hand : Hand → Course
ended_hand b = flushed b.frame (course b.signal b.frame.tally)

pub record Finishes (f : Frame) (s : Signal) (e : Idle) (parity held : ℕ) (s' : Signal) : Type 0 where
  pub all_done : refuse_if (ltb f.done (block_lines f.raster)) (Refusal.BlockLineCount f.done) ≡ Ok tt
  pub end_is : e ≡ record { raster = f.raster; parity = parity_of (ended_hand (in_hand f s)).tally }
  pub parity_is : parity ≡ parity_of (ended_hand (in_hand f s)).tally
  pub held_is : held ≡ (ended_hand (in_hand f s)).tally.held
  pub signal_is : s' ≡ (ended_hand (in_hand f s)).signal

pub finishes : (f : Frame) (s s' : Signal) (done : Finished) → finish f s ≡ (Ok done, s') → Finishes f s done.end done.parity done.held s'
finishes f s s' done q = go (finish_test f s) refl q
  where
    go : (v : Verdict) → finish_test f s ≡ v → finish_on f s v ≡ (Ok done, s') → Finishes f s done.end done.parity done.held s'
    go (Err why) p q = no_refusal (sym (ap (λ x. x.0) q))
    go (Ok t) p q =
        let both = passed (reach_test f.raster s) (refuse_if (ltb f.done (block_lines f.raster)) (Refusal.BlockLineCount f.done)) p in
        let is = ok_same (ap (λ x. x.0) q) in
        record {
          all_done = both.1;
          end_is = sym (ap (λ x. x.end) is);
          parity_is = sym (ap (λ x. x.parity) is);
          held_is = sym (ap (λ x. x.held) is);
          signal_is = sym (ap (λ x. x.1) q);
        }

pub finish_leaves : (f : Frame) (s s' : Signal) (x : Refused Frame) → finish f s ≡ (Err x, s') → (x.end ≡ f) × (s' ≡ s)
finish_leaves f s s' x q = go (finish_test f s) q
  where
    go : (v : Verdict) → finish_on f s v ≡ (Err x, s') → (x.end ≡ f) × (s' ≡ s)
    go (Err why) q = (sym (ap (λ y. y.end) (err_same (ap (λ y. y.0) q))), sym (ap (λ y. y.1) q))
    go (Ok t) q = no_refusal (ap (λ y. y.0) q)

-- a coder's finish is a decoder's, of which it tells the end and the parity
pub coded_finish : (f : Frame) (s s' : Signal) (e : Idle) (parity : ℕ) → finish_coded f s ≡ (Ok (e, parity), s')
    → (held : ℕ) × Finishes f s e parity held s'
coded_finish f s s' e parity q = go (finish f s).0 refl (ap (λ x. x.0) q)
  where
    go : (v : Result Finished (Refused Frame)) → (finish f s).0 ≡ v → with_parity v ≡ Ok (e, parity) → (held : ℕ) × Finishes f s e parity held s'
    go (Err x) p w = no_refusal (sym w)
    go (Ok done) p w =
        let known = finishes f s s' done (λ i. (p i, ap (λ x. x.1) q i)) in
        let pair = ok_same w in
        (done.held, record { all_done = known.all_done; end_is = sym (ap (λ x. x.0) pair) ∙ known.end_is; parity_is = sym (ap (λ x. x.1) pair) ∙ known.parity_is; held_is = known.held_is; signal_is = known.signal_is })

pub coded_finish_leaves : (f : Frame) (s s' : Signal) (x : Refused Frame) → finish_coded f s ≡ (Err x, s') → (x.end ≡ f) × (s' ≡ s)
coded_finish_leaves f s s' x q = go (finish f s).0 refl (ap (λ y. y.0) q)
  where
    go : (v : Result Finished (Refused Frame)) → (finish f s).0 ≡ v → with_parity v ≡ Err x → (x.end ≡ f) × (s' ≡ s)
    go (Ok done) p w = no_refusal w
    go (Err y) p w = finish_leaves f s s' x (λ i. ((p ∙ ap Err (err_same w)) i, ap (λ z. z.1) q i))
