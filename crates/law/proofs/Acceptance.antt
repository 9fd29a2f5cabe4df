-- What a coder writes is accepted: a pel that the format calls omitted is not coded, and a usable front with levels that fit is a
-- usable record.
use Rattle.std.proofs.Common.{◌≡◌, ℕ, ◌+◌, ◌-◌, ◌*◌, ◌≤◌, Bool, true, false, cond, not, ◌&&◌, ◌||◌, eqb, ltb, leb, List, ◌++◌, length, pos, nat_abs, Some, None, Ok, Err, sym, refl, ap, ◌∙◌, ap₂, ⊎_elim, arith}
use Rattle.std.specs.Result.{result_and}
use Rattle.std.proofs.lemmas.List.FromFn.{get_or-map-range_with_len}
use Rattle.std.proofs.lemmas.List.{length-append}
use Rattle.std.proofs.lemmas.Bool.{and_parts, and_from, or_cases, or_left, or_right, ltb-true, le-leb, eq-eqb, cond-true, true≢false}
use Rattle.format.specs.Bits.{field_of}
use Rattle.format.specs.Front.{front_length}
use Rattle.format.specs.Modes.{block_of, repeated, subsampled, off_quincunx}
use Rattle.format.specs.Raster.{blocks, width, word_bytes, line_levels, record_length}
use Rattle.format.specs.Reader.{verdict}
use Rattle.format.specs.Record.{length_fits, head_in, head_marked, words_in, word_of, word_in, has_word, word_at, has_line, level_in}
use Rattle.format.specs.Sound.{has_level}
use Rattle.format.specs.Usable.{Verdict, refuse_if, in_order, forced_repeat, stray_word, word_test, bad_vector, vector_test, thinned, omitted, levels_test, front_usable, usable}
use Rattle.format.specs.declared.header.Header.{Header}
use Rattle.format.specs.declared.raster.Raster.{Raster}
use Rattle.format.specs.declared.refusal.Refusal.TheVariants.{FixedHeadBits, ForcedRepeat, StrayWord, VectorRange, WrongLength}
use Rattle.format.specs.declared.words.Head.{Head}
use Rattle.format.proofs.FrontTests.{levels_pass}
use Rattle.format.proofs.InOrder.{both_from}
use Rattle.format.proofs.RasterLaws.{width_is, record_length_is}
use Rattle.format.proofs.Verdicts.{front_then_levels}
use Rattle.codec.specs.Block.{modes_of, most_blocks, blocks_of, line_modes}
use Rattle.codec.specs.Coding.{is_coded}
use Rattle.codec.specs.Line.{burst_modes, block_at}
use Rattle.codec.specs.Modes.{pel_mode}
use Rattle.codec.specs.declared.modes.Above.{Above}
use Rattle.codec.specs.declared.modes.Geometry.{Geometry}
use Rattle.codec.specs.declared.modes.LineModes.{LineModes}
use Rattle.codec.specs.declared.modes.PelMode.{PelMode}
use Rattle.codec.specs.declared.modes.PelMode.TheVariants.{Clamped, Repeated, Subsampled, Forced, Burst, Adaptive}
use Rattle.codec.proofs.CodedRecords.{head_front, marked_front, words_front}

-- a pel of a repeated line is not coded, nor one off the quincunx in a subsampled block
uncoded_mode : (l : LineModes) (thin : Bool) (pel : ℕ) → (l.repeated || (thin && off_quincunx l.number pel)) ≡ true → is_coded (pel_mode l thin pel) ≡ false
uncoded_mode l thin pel h =
    by_tests (leb pel 3) l.repeated (thin && off_quincunx l.number pel) (cond l.forced Forced (cond (leb pel 7) Burst Adaptive)) h
  where
    by_tests : (a b c : Bool) (other : PelMode) → (b || c) ≡ true
        → is_coded (cond a Clamped (cond b Repeated (cond c Subsampled other))) ≡ false
    by_tests true b c other h = refl
    by_tests false true c other h = refl
    by_tests false false true other h = refl
    by_tests false false false other h = absurd (true≢false (sym h))

module _ (g : Geometry) (r : Raster) (sbc : Bool) (bytes : List ℕ) where
  -- the modes of the block that a pel lies in, by its word
  block_modes : (pel : ℕ) → pel ≤ width r → block_at (blocks_of g r sbc bytes) pel ≡ modes_of g sbc (head_in bytes) (word_at r bytes (block_of pel))
  unfolding blocks_of
  block_modes pel high =
      let w = width_is r in
      get_or-map-range_with_len (λ b. modes_of g sbc (head_in bytes) (word_at r bytes b)) 1 most_blocks (block_of pel - 1) (block_of pel) burst_modes (omega arith) (omega arith)

  -- a block that the format thins out is subsampled
  thinned_block : (pel : ℕ) → pel ≤ width r → thinned r sbc bytes (block_of pel) ≡ true → (block_at (blocks_of g r sbc bytes) pel).subsampled ≡ true
  unfolding thinned
  thinned_block pel high h =
      let b = block_of pel in
      let both = and_parts (ltb 1 b) (subsampled sbc (head_in bytes) (word_in r bytes b)) h in
      let low = ltb-true 1 b both.0 in
      let w = width_is r in
      let has = and_from (leb 2 b) (leb b (blocks r + 1)) (le-leb 2 b (omega arith)) (le-leb b (blocks r + 1) (omega arith)) in
      ap (λ m. m.subsampled) (block_modes pel high)
      ∙ ap (λ o. (modes_of g sbc (head_in bytes) o).subsampled) (cond-true (has_word r b) (Some (word_in r bytes b)) None has)
      ∙ both.1

-- an omitted pel is not coded
pub omitted_uncoded : (g : Geometry) (r : Raster) (h : Header) (second : Bool) (above : Above) (bytes : List ℕ) (line pel : ℕ) → pel ≤ width r
    → omitted r h.sbc bytes line pel ≡ true
    → is_coded (pel_mode (line_modes h (head_in bytes) second above line) (block_at (blocks_of g r h.sbc bytes) pel).subsampled pel) ≡ false
omitted_uncoded g r h second above bytes line pel high gone =
    let thin = thinned r h.sbc bytes (block_of pel) in
    let off = off_quincunx line pel in
    let head = head_in bytes in
    let sub = (block_at (blocks_of g r h.sbc bytes) pel).subsampled in
    uncoded_mode (line_modes h head second above line) sub pel
    (⊎_elim
    (λ (rep : repeated head ≡ true). or_left (repeated head) (sub && off) rep)
    (λ (both : (thin && off) ≡ true).
    let p = and_parts thin off both in
    or_right (repeated head) (sub && off) (and_from sub off (thinned_block g r h.sbc bytes pel high p.0) p.1))
    (or_cases (repeated head) (thin && off) gone))

-- the tests of a front, by whether its head is marked, its head and the bytes of its words
tests_by : Raster → Bool → Bool → Head → List ℕ → Verdict
tests_by r sbc marked head words =
    result_and (refuse_if (not marked) FixedHeadBits)
    (result_and (refuse_if (forced_repeat head) ForcedRepeat)
    (result_and (in_order (λ block. refuse_if (stray_word sbc head (word_of words (10 * (block - 2)))) (StrayWord block)) 2 (blocks r))
    (result_and (refuse_if (not (eqb (field_of words (10 * blocks r) (8 * word_bytes r - 10 * blocks r)) 0)) (StrayWord 0))
    (in_order (λ block. refuse_if (bad_vector (word_of words (10 * (block - 2)))) (VectorRange block)) 2 (blocks r)))))

module _ (r : Raster) (sbc : Bool) (front levels : List ℕ) (long : length front ≡ front_length r) where
  -- level bytes behind a front change nothing of what its tests answer
  pub usable_front : front_usable r sbc (front ++ levels) ≡ front_usable r sbc front
  unfolding tests_by word_in word_test vector_test
  usable_front =
      let words = words_in r (front ++ levels) in
      ap (λ m. tests_by r sbc m (head_in (front ++ levels)) words) (marked_front r front levels long)
      ∙ ap₂ (tests_by r sbc (head_marked front)) (head_front r front levels long) (words_front r front levels long)

  -- a usable front and level bytes, none beyond the top and those of omitted pels 0, make a usable record
  pub usable_whole : (top : ℕ) → length levels ≡ 8 * line_levels r → front_usable r sbc front ≡ Ok tt
      → ((line pel : ℕ) → has_line line ≡ true → has_level r pel ≡ true → nat_abs (level_in r (front ++ levels) line pel) ≤ top)
      → ((line pel : ℕ) → has_line line ≡ true → has_level r pel ≡ true → omitted r sbc (front ++ levels) line pel ≡ true
      → level_in r (front ++ levels) line pel ≡ pos 0)
      → verdict r sbc top (front ++ levels) ≡ Ok tt
  usable_whole top count fine within silent =
      let bytes = front ++ levels in
      let whole = eq-eqb (length bytes) (record_length r) (omega (arith, length-append front levels, record_length_is r)) in
      both_from (length_fits r bytes) (usable r sbc top bytes) (ap (λ b. cond b (Ok tt) (Err (WrongLength (length bytes)))) whole)
      (sym (front_then_levels r sbc top bytes)
      ∙ both_from (front_usable r sbc bytes) (levels_test r sbc top bytes) (usable_front ∙ fine) (levels_pass r sbc top bytes within silent))
