-- Two signals worked by the same block-line: where its lines see what agrees, they agree further.
use Rattle.std.proofs.Common.{◌≡◌, ℕ, zero, suc, ◌+◌, ◌-◌, ◌*◌, ◌≤◌, Bool, true, false, cond, eqb, ◌⊎◌, List, length, ℤ, ap, ◌∙◌, inl, inr, suc-mul, arith}
use Rattle.std.proofs.lemmas.Nat.{mul-le}
use Rattle.std.proofs.lemmas.List.Edits.{length-between}
use Rattle.std.proofs.lemmas.Bool.{cond_both, ne_eqb}
use Rattle.format.specs.Modes.{repeated}
use Rattle.format.specs.Raster.{width, frame, picture_reach, line_levels, record_length}
use Rattle.format.specs.Record.{head_in, line_start, line_in}
use Rattle.format.specs.declared.header.Header.{Header}
use Rattle.format.specs.declared.raster.Raster.{Raster}
use Rattle.format.proofs.RasterLaws.{width_least, picture_reach_is, record_length_is}
use Rattle.codec.specs.Block.{geometry_of, blocks_of, control_of, line_is_forced, line_modes, lines_from, block_line_work}
use Rattle.codec.specs.Line.{line_work}
use Rattle.codec.specs.Step.{Course}
use Rattle.codec.specs.declared.modes.Above.{Above}
use Rattle.codec.specs.declared.modes.Above.TheVariants.{Reset, Pending}
use Rattle.codec.specs.declared.modes.LineModes.{LineModes}
use Rattle.law.proofs.Agreement.{gained, Alike, alike_less, Sees, Blind, Enters, line-alike}
use Rattle.law.proofs.Delays.{delay_of}

-- a whole record has the levels of eight lines
line-length : (r : Raster) (bytes : List ℕ) (line : ℕ) → length bytes ≡ record_length r → 1 ≤ line → line ≤ 8 → length (line_in r bytes line) ≡ line_levels r
unfolding line_in
line-length r bytes line whole low high =
    let start = line_start r line in
    let rows = mul-le (line - 1) (line_levels r) 7 (line_levels r) (omega arith) (omega arith) in
    length-between bytes start (start + line_levels r) (omega (arith, record_length_is r)) ∙ omega arith

module _ (r : Raster) where
  -- a forced block-line, coded and not repeated, below a reset line or a forced one
  pub record Fresh (h : Header) (bytes : List ℕ) (above : Above) : Type 0 where
    pub lines : (line : ℕ) → line_is_forced h (head_in bytes) line ≡ true
    pub coded : repeated (head_in bytes) ≡ false
    pub entering : (a : ℕ) → Enters r a above

  -- so much agrees that every pel of the block-line sees it
  pub record Deep (a : ℕ) (sbc : Bool) (bytes : List ℕ) : Type 0 where
    pub deep : frame r + 7 * width r ≤ a
    pub within : (p : ℕ) → delay_of r sbc bytes p ≤ picture_reach r
    pub moved : (p : ℕ) → delay_of r sbc bytes p ≤ a + (p - 1)

  deep_more : {a b : ℕ} {sbc : Bool} {bytes : List ℕ} → a ≤ b → Deep a sbc bytes → Deep b sbc bytes
  deep_more h d = record { deep = omega (arith, d.deep); within = d.within; moved = λ p. omega (arith, d.moved p) }

  deep_enters : {a : ℕ} {sbc : Bool} {bytes : List ℕ} (above : Above) → Deep a sbc bytes → Enters r a above
  deep_enters Reset d = tt
  deep_enters {a} (Pending f) d = let framed : frame r ≤ a = omega (arith, d.deep) in inr framed

  deep_sees : {a : ℕ} {sbc : Bool} {bytes : List ℕ} (above : Above) (p : ℕ) → Deep a sbc bytes → Sees r a above (delay_of r sbc bytes p) p
  deep_sees Reset p d = record { frame = omega (arith, d.deep); moved = omega (arith, d.moved p); within = omega (arith, d.within p) }
  deep_sees (Pending f) p d =
      let w = width_least r in
      let reach = picture_reach_is r in
      record { frame = omega (arith, d.deep); moved = omega (arith, d.within p, d.deep); within = omega (arith, d.within p) }

  -- a block-line may be worked where so much agrees
  abbrev pub Clear : ℕ → Header → List ℕ → Above → Type 0
  Clear a h bytes above = Fresh h bytes above ⊎ Deep a h.sbc bytes

  pub clear_more : {h : Header} {bytes : List ℕ} {above : Above} (a b : ℕ) → a ≤ b → Clear a h bytes above → Clear b h bytes above
  clear_more a b l (inl f) = inl f
  clear_more a b l (inr d) = inr (deep_more l d)

  module _ (h : Header) (second : Bool) (above : Above) (value : ℕ → ℤ) (bytes : List ℕ) (whole : length bytes ≡ record_length r) where
    abbrev modes : ℕ → LineModes
    modes line = line_modes h (head_in bytes) second above line

    line_sees : {a : ℕ} (line p : ℕ) → Clear a h bytes above → Blind (modes line) ⊎ Sees r a (modes line).above (delay_of r h.sbc bytes p) p
    line_sees line p (inl f) = inl (f.lines line, f.coded)
    line_sees line p (inr d) = inr (deep_sees (modes line).above p d)

    line_enters : {a : ℕ} (line : ℕ) → Clear a h bytes above → Enters r a (modes line).above
    line_enters {a} line (inl f) =
        cond_both (eqb line 1) above (Pending (line_is_forced h (head_in bytes) (line - 1))) (Enters r a) (λ _. f.entering a) (λ _. inl (f.lines (line - 1)))
    line_enters line (inr d) = deep_enters (modes line).above d

    one_line : {a : ℕ} {c d : Course} (line : ℕ) → 1 ≤ line → line ≤ 8 → Clear a h bytes above → Alike r a c d
        → Alike r (a + gained (modes line).above (width r))
        (line_work (geometry_of r) (control_of h) (modes line) (blocks_of (geometry_of r) r h.sbc bytes) value (line_in r bytes line) c)
        (line_work (geometry_of r) (control_of h) (modes line) (blocks_of (geometry_of r) r h.sbc bytes) value (line_in r bytes line) d)
    one_line {a} line low high clear g =
        let levels = line_in r bytes line in
        let all : 3 + length levels ≡ width r = omega (arith, line-length r bytes line whole low high, width_least r) in
        alike_less r (omega (arith, ap (gained (modes line).above) all))
        (line-alike r (control_of h) (modes line) (blocks_of (geometry_of r) r h.sbc bytes) value levels (λ q _. line_sees line q clear) (line_enters line clear) g)

    later_above : (line : ℕ) → 2 ≤ line → gained (modes line).above (width r) ≡ width r
    later_above line low = ap (λ b. gained (cond b above (Pending (line_is_forced h (head_in bytes) (line - 1)))) (width r)) (ne_eqb line 1 (omega arith))

    -- so many lines after the first
    lines_alike : (line count : ℕ) {a : ℕ} {c d : Course} → 2 ≤ line → line + count ≤ 9 → Clear a h bytes above → Alike r a c d
        → Alike r (a + count * width r) (lines_from r h second above value bytes line count c) (lines_from r h second above value bytes line count d)
    unfolding lines_from
    lines_alike line zero low high clear g = alike_less r (omega arith) g
    lines_alike line (suc count) {a} low high clear g =
        let w = width r in
        let m = gained (modes line).above w in
        alike_less r (omega (arith, later_above line low, suc-mul count w))
        (lines_alike (line + 1) count (omega arith) (omega arith) (clear_more a (a + m) (omega arith) clear) (one_line line (omega arith) (omega arith) clear g))

    -- the eight lines
    pub block_line_alike : {a : ℕ} {c d : Course} → Clear a h bytes above → Alike r a c d
        → Alike r (a + gained above (width r) + 7 * width r) (block_line_work r h second above value bytes c) (block_line_work r h second above value bytes d)
    unfolding block_line_work lines_from
    block_line_alike {a} clear g =
        lines_alike 2 7 (omega arith) (omega arith) (clear_more a (a + gained above (width r)) (omega arith) clear) (one_line 1 (omega arith) (omega arith) clear g)
