-- The tests of a front and of levels: what a coder writes of a usable front is usable, and levels that fit pass.
use Rattle.std.proofs.Common.{◌≡◌, ℕ, ◌+◌, ◌-◌, ◌*◌, ◌<◌, ◌≤◌, Bool, true, false, cond, not, ◌&&◌, ◌||◌, leb, List, map, length, ℤ, pos, nat_abs, Ok, Err, sym, refl, ap, ◌∙◌, ap₂, arith}
use Rattle.std.specs.List.{range_with_len}
use Rattle.std.specs.Result.{result_and}
use Rattle.std.proofs.lemmas.List.FromFn.{length-map-range_with_len, get_or-map-range_with_len}
use Rattle.std.proofs.lemmas.List.{length-map, get_or-map, take_all}
use Rattle.std.proofs.lemmas.Bool.{and_from, or_from, le-leb, le-ltb, eq-eqb, not_from_true}
use Rattle.format.specs.Bits.{field_of}
use Rattle.format.specs.Front.{front_length, still, stilled, front_written}
use Rattle.format.specs.Modes.{repeated}
use Rattle.format.specs.Raster.{blocks, width, word_bytes, line_levels}
use Rattle.format.specs.Reader.{verdict}
use Rattle.format.specs.Record.{head_in, head_marked, words_in, word_of, word_in, has_word, is_whole, length_fits, has_line, level_in}
use Rattle.format.specs.RecordWriting.{no_word, words_byte}
use Rattle.format.specs.Sound.{has_level}
use Rattle.format.specs.Survival.{words_read}
use Rattle.format.specs.Usable.{Verdict, refuse_if, equals, mark_test, forced_test, forced_repeat, stray_word, word_test, words_test, fill_in, fill_test, bad_vector, vector_test, vectors_test, omitted, bad_level, level_test, line_test, levels_test, front_usable, usable}
use Rattle.format.specs.declared.raster.Raster.{Raster}
use Rattle.format.specs.declared.refusal.Refusal.TheVariants.{FixedHeadBits, ForcedRepeat, StrayWord, VectorRange, LevelValue, WrongLength}
use Rattle.format.specs.declared.words.BlockWord.{BlockWord}
use Rattle.format.specs.declared.words.Head.{Head}
use Rattle.format.proofs.FrontLaws.{still_ranged}
use Rattle.format.proofs.InOrder.{both_pass, both_from, in_order_all, in_order_from}
use Rattle.format.proofs.RasterLaws.{width_least}
use Rattle.format.proofs.SoundLaws.{no_fault}
use Rattle.format.proofs.RecordLaws.{word_bounds}
use Rattle.format.proofs.SurvivalLaws.{word_laid, fill_laid}
use Rattle.format.proofs.Verdicts.{passes}

-- the tests of a front each for itself
record TestsPass (raster : Raster) (sbc : Bool) (bytes : List ℕ) : Type 0 where
  mark : mark_test bytes ≡ Ok tt
  forced : forced_test bytes ≡ Ok tt
  words : words_test raster sbc bytes ≡ Ok tt
  fill : fill_test raster bytes ≡ Ok tt
  vectors : vectors_test raster bytes ≡ Ok tt

tests_pass : (raster : Raster) (sbc : Bool) (bytes : List ℕ) → front_usable raster sbc bytes ≡ Ok tt → TestsPass raster sbc bytes
tests_pass raster sbc bytes h =
    let fills = result_and (fill_test raster bytes) (vectors_test raster bytes) in
    let words = result_and (words_test raster sbc bytes) fills in
    let p6 = both_pass (mark_test bytes) (result_and (forced_test bytes) words) h in
    let p7 = both_pass (forced_test bytes) words p6.1 in
    let p8 = both_pass (words_test raster sbc bytes) fills p7.1 in
    let p9 = both_pass (fill_test raster bytes) (vectors_test raster bytes) p8.1 in
    record { mark = p6.0; forced = p7.0; words = p8.0; fill = p9.0; vectors = p9.1 }

tests_from : (raster : Raster) (sbc : Bool) (bytes : List ℕ) → TestsPass raster sbc bytes → front_usable raster sbc bytes ≡ Ok tt
tests_from raster sbc bytes p =
    both_from _ _ p.mark (both_from _ _ p.forced (both_from _ _ p.words (both_from _ _ p.fill p.vectors)))

-- a level is not bad that lies within the top, and is 0 where its pel is omitted
good_level : (top : ℕ) (gone : Bool) (level : ℤ) → nat_abs level ≤ top → (gone ≡ true → level ≡ pos 0) → bad_level top gone level ≡ false
good_level top true level within silent =
    or_from _ _ (le-ltb top (nat_abs level) within) (ap (λ z. not (equals z (pos 0))) (silent refl))
good_level top false level within silent = or_from _ _ (le-ltb top (nat_abs level) within) refl

has_word_lem : (raster : Raster) (block : ℕ) → 2 ≤ block → block < 2 + blocks raster → has_word raster block ≡ true
has_word_lem raster block low high =
    and_from (leb 2 block) (leb block (blocks raster + 1)) (le-leb 2 block low) (le-leb block (blocks raster + 1) (omega arith))

-- STOP. Every vector that is written is 0, and the rest of the front stays.
module _ (raster : Raster) (front : List ℕ) where
  abbrev still_words : List BlockWord
  still_words = map still (words_read raster front)

  abbrev laid_words : List ℕ
  laid_words = map (words_byte still_words) (range_with_len 0 (word_bytes raster))

  still_count : length still_words ≡ blocks raster
  still_count = length-map (words_read raster front) still ∙ length-map-range_with_len (word_in raster front) 2 (blocks raster)

  still_room : 10 * length still_words ≤ 8 * word_bytes raster
  still_room = omega (arith, still_count)

  pub stilled-length : length (stilled raster front) ≡ front_length raster
  unfolding stilled
  stilled-length = omega (arith, length-map-range_with_len (words_byte still_words) 0 (word_bytes raster))

  stilled_words : words_in raster (stilled raster front) ≡ laid_words
  unfolding stilled
  stilled_words = take_all (1 + word_bytes raster - 1) laid_words (omega (arith, length-map-range_with_len (words_byte still_words) 0 (word_bytes raster)))

  pub stilled_head : head_in (stilled raster front) ≡ head_in front
  unfolding stilled head_in
  stilled_head = refl

  pub stilled_marked : head_marked (stilled raster front) ≡ head_marked front
  unfolding stilled
  stilled_marked = refl

  -- the word of each block reads back with its vector 0
  pub stilled_word : (block : ℕ) → has_word raster block ≡ true → word_in raster (stilled raster front) block ≡ still (word_in raster front block)
  unfolding word_in
  stilled_word block has =
      let within = word_bounds raster block has in
      let count = length-map-range_with_len (word_in raster front) 2 (blocks raster) in
      ap (λ xs. word_of xs (10 * (block - 2))) stilled_words
      ∙ word_laid still_words (word_bytes raster) still_room (still_ranged (words_read raster front)) (block - 2) (omega (arith, still_count))
      ∙ get_or-map still (words_read raster front) (block - 2) no_word no_word (omega arith)
      ∙ ap still (get_or-map-range_with_len (word_in raster front) 2 (blocks raster) (block - 2) block no_word (omega arith) (omega arith))

  -- and the bits after the words are 0
  pub stilled_fill : fill_in raster (stilled raster front) ≡ 0
  stilled_fill =
      ap (λ xs. field_of xs (10 * blocks raster) (8 * word_bytes raster - 10 * blocks raster)) stilled_words
      ∙ ap (λ k. field_of laid_words (10 * k) (8 * word_bytes raster - 10 * k)) (sym still_count)
      ∙ fill_laid still_words (word_bytes raster) still_room (still_ranged (words_read raster front))

-- a word that is no stray one stays none
still_no_stray : (sbc : Bool) (head : Head) (word : BlockWord) → stray_word sbc head word ≡ false → stray_word sbc head (still word) ≡ false
still_no_stray sbc head word h = by_flags sbc (repeated head) word.s (equals word.vx (pos 0)) (equals word.vy (pos 0)) h
  where
    by_flags : (sbc rep s x y : Bool) → ((s && not sbc) || (rep && not (not s && x && y))) ≡ false
        → ((s && not sbc) || (rep && not (not s && true && true))) ≡ false
    by_flags sbc rep true x y h = h
    by_flags sbc true false x y h = refl
    by_flags sbc false false x y h = refl

module _ (raster : Raster) (sbc : Bool) (front : List ℕ) where
  pub stilled_usable : front_usable raster sbc front ≡ Ok tt → front_usable raster sbc (stilled raster front) ≡ Ok tt
  unfolding word_test vector_test
  stilled_usable fine =
      let given = tests_pass raster sbc front fine in
      let head = stilled_head raster front in
      let s = stilled raster front in
      let word = λ (block : ℕ) (low : 2 ≤ block) (high : block < 2 + blocks raster). stilled_word raster front block (has_word_lem raster block low high) in
      tests_from raster sbc s (record {
        mark = ap (λ b. refuse_if (not b) FixedHeadBits) (stilled_marked raster front) ∙ given.mark;
        forced = ap (λ h. refuse_if (forced_repeat h) ForcedRepeat) head ∙ given.forced;
        words = in_order_from (word_test raster sbc s) 2 (blocks raster) (λ block low high.
            let before = in_order_all (word_test raster sbc front) 2 (blocks raster) given.words block low high in
            passes _ (StrayWord block)
            (ap₂ (stray_word sbc) head (word block low high)
            ∙ still_no_stray sbc (head_in front) (word_in raster front block) (no_fault _ (StrayWord block) before)));
        fill = passes _ (StrayWord 0) (not_from_true _ (eq-eqb (fill_in raster s) 0 (stilled_fill raster front)));
        vectors = in_order_from (vector_test raster s) 2 (blocks raster) (λ block low high. passes _ (VectorRange block) (ap bad_vector (word block low high)));
      })

-- what a coder writes of a usable front is a usable front with the same head
pub still_usable : (raster : Raster) (sbc stop : Bool) (front : List ℕ) → front_usable raster sbc front ≡ Ok tt → length front ≡ front_length raster
    → (front_usable raster sbc (front_written raster stop front) ≡ Ok tt)
    × (length (front_written raster stop front) ≡ front_length raster)
    × (head_in (front_written raster stop front) ≡ head_in front)
still_usable raster sbc true front fine long = (stilled_usable raster sbc front fine, stilled-length raster front, stilled_head raster front)
still_usable raster sbc false front fine long = (fine, long, refl)

-- LEVELS. None beyond the top and those of omitted pels 0: all pass.
pub levels_pass : (raster : Raster) (sbc : Bool) (top : ℕ) (bytes : List ℕ)
    → ((line pel : ℕ) → has_line line ≡ true → has_level raster pel ≡ true → nat_abs (level_in raster bytes line pel) ≤ top)
    → ((line pel : ℕ) → has_line line ≡ true → has_level raster pel ≡ true → omitted raster sbc bytes line pel ≡ true → level_in raster bytes line pel ≡ pos 0)
    → levels_test raster sbc top bytes ≡ Ok tt
unfolding line_test level_test
levels_pass raster sbc top bytes within silent =
    let least = width_least raster in
    in_order_from (line_test raster sbc top bytes) 1 8 (λ line first last.
    in_order_from (level_test raster sbc top bytes line) 4 (line_levels raster) (λ pel low high.
    let has = and_from (leb 1 line) (leb line 8) (le-leb 1 line first) (le-leb line 8 (omega arith)) in
    let has' = and_from (leb 4 pel) (leb pel (width raster)) (le-leb 4 pel low) (le-leb pel (width raster) (omega arith)) in
    passes _ (LevelValue ((line - 1) * width raster + pel))
    (good_level top (omitted raster sbc bytes line pel) (level_in raster bytes line pel) (within line pel has has') (silent line pel has has'))))

-- a record that is not refused has its length
pub whole_from : (raster : Raster) (sbc : Bool) (top : ℕ) (bytes : List ℕ) → verdict raster sbc top bytes ≡ Ok tt → is_whole raster bytes ≡ true
whole_from raster sbc top bytes h =
    by_test (is_whole raster bytes) (both_pass (length_fits raster bytes) (usable raster sbc top bytes) h).0
  where
    by_test : (b : Bool) → ◌≡◌ {A = Verdict} (cond b (Ok tt) (Err (WrongLength (length bytes)))) (Ok tt) → b ≡ true
    by_test true e = refl
    by_test false e = let z : ◌≡◌ {A = ℕ} 0 1 = cc in absurd (omega arith)
