-- A usable record is sound: each of its places passes its tests.
use Rattle.std.proofs.Common.{◌≡◌, ℕ, ◌+◌, ◌-◌, ◌*◌, ◌≤◌, Bool, true, false, not, ◌&&◌, List, pos, negsuc, nat_abs, Ok, sym, refl, ◌∙◌, arith}
use Rattle.std.specs.Result.{result_and}
use Rattle.std.proofs.lemmas.Bool.{or_parts, not-false, ltb-false, eqb-true, true≢false}
use Rattle.format.specs.Bits.{field_of}
use Rattle.format.specs.Modes.{repeated}
use Rattle.format.specs.Raster.{blocks, width, line_levels}
use Rattle.format.specs.Record.{head_in, head_marked, words_in, word_of, word_in, has_word, level_in, has_line}
use Rattle.format.specs.Sound.{Sound, has_level}
use Rattle.format.specs.Usable.{refuse_if, mark_test, forced_test, stray_word, word_test, words_test, fill_test, bad_vector, vector_test, vectors_test, omitted, bad_level, level_test, line_test, levels_test, usable}
use Rattle.format.specs.declared.raster.Raster.{Raster}
use Rattle.format.specs.declared.refusal.Refusal.{Refusal}
use Rattle.format.specs.declared.refusal.Refusal.TheVariants.{FixedHeadBits, ForcedRepeat, StrayWord, VectorRange, LevelValue}
use Rattle.format.proofs.Fields.{field_below}
use Rattle.format.proofs.InOrder.{both_pass, in_order_all}
use Rattle.format.proofs.RasterLaws.{width_least}
use Rattle.format.proofs.RecordLaws.{word_bounds, level_bounds}
use Rattle.format.proofs.Twos.{equals_true, twos_but_least}

pub no_fault : (fault : Bool) (refusal : Refusal) → refuse_if fault refusal ≡ Ok tt → fault ≡ false
no_fault true refusal h = let z : ◌≡◌ {A = ℕ} 0 1 = cc in absurd (omega arith)
no_fault false refusal h = refl

-- where not both hold and one does, the other does not
not_both : (x y : Bool) → (x && y) ≡ false → x ≡ true → y ≡ false
not_both true y h e = h
not_both false y h e = absurd (true≢false (sym e))

-- the same, of a test and one turned
but_not : (x y : Bool) → (x && not y) ≡ false → x ≡ true → y ≡ true
but_not x y h e = not-false y (not_both x (not y) h e)

not_first : (x y : Bool) → (not x && y) ≡ false → y ≡ true → x ≡ true
not_first true y h e = refl
not_first false y h e = absurd (true≢false (sym e ∙ h))

module _ (raster : Raster) (sbc : Bool) (top : ℕ) (bytes : List ℕ) where
  -- a word that passes is not stray
  word_passes : words_test raster sbc bytes ≡ Ok tt → (block : ℕ) → has_word raster block ≡ true
      → stray_word sbc (head_in bytes) (word_in raster bytes block) ≡ false
  unfolding word_test
  word_passes h block has =
      let within = word_bounds raster block has in
      no_fault _ (StrayWord block) (in_order_all (word_test raster sbc bytes) 2 (blocks raster) h block within.0 within.1)

  vector_passes : vectors_test raster bytes ≡ Ok tt → (block : ℕ) → has_word raster block ≡ true
      → bad_vector (word_in raster bytes block) ≡ false
  unfolding vector_test
  vector_passes h block has =
      let within = word_bounds raster block has in
      no_fault _ (VectorRange block) (in_order_all (vector_test raster bytes) 2 (blocks raster) h block within.0 within.1)

  level_passes : levels_test raster sbc top bytes ≡ Ok tt → (line pel : ℕ) → has_line line ≡ true → has_level raster pel ≡ true
      → bad_level top (omitted raster sbc bytes line pel) (level_in raster bytes line pel) ≡ false
  unfolding line_test level_test
  level_passes h line pel has has' =
      let within = level_bounds raster line pel has has' in
      let w = width_least raster in
      let row = in_order_all (line_test raster sbc top bytes) 1 8 h line (omega arith) (omega arith) in
      no_fault _ (LevelValue ((line - 1) * width raster + pel))
      (in_order_all (level_test raster sbc top bytes line) 4 (line_levels raster) row pel (omega arith) (omega arith))

  vx_range : (block : ℕ) → bad_vector (word_in raster bytes block) ≡ false → nat_abs (word_in raster bytes block).vx ≤ 15
  unfolding word_in word_of
  vx_range block h =
      let words = words_in raster bytes in
      twos_but_least 16 (field_of words (10 * (block - 2) + 1) 5) (negsuc 15) (field_below words (10 * (block - 2) + 1) 5) refl
      (or_parts _ _ h).0

  vy_range : (block : ℕ) → bad_vector (word_in raster bytes block) ≡ false → nat_abs (word_in raster bytes block).vy ≤ 7
  unfolding word_in word_of
  vy_range block h =
      let words = words_in raster bytes in
      twos_but_least 8 (field_of words (10 * (block - 2) + 6) 4) (negsuc 7) (field_below words (10 * (block - 2) + 6) 4) refl
      (or_parts _ _ h).1

  pub sound : usable raster sbc top bytes ≡ Ok tt → Sound raster sbc top bytes
  sound h =
      let levels = levels_test raster sbc top bytes in
      let vectors = result_and (vectors_test raster bytes) levels in
      let fill = result_and (fill_test raster bytes) vectors in
      let words = result_and (words_test raster sbc bytes) fill in
      let head = result_and (forced_test bytes) words in
      let p6 = both_pass (mark_test bytes) head h in
      let p7 = both_pass (forced_test bytes) words p6.1 in
      let p8 = both_pass (words_test raster sbc bytes) fill p7.1 in
      let pf = both_pass (fill_test raster bytes) vectors p8.1 in
      let p9 = both_pass (vectors_test raster bytes) levels pf.1 in
      record {
        marked = not-false (head_marked bytes) (no_fault _ FixedHeadBits p6.0);
        unforced = λ rep. not_first (head_in bytes).ifm (repeated (head_in bytes)) (no_fault _ ForcedRepeat p7.0) rep;
        subsampling = λ block has s. but_not _ sbc (or_parts _ _ (word_passes p8.0 block has)).0 s;
        still = λ block has rep. but_not _ _ (or_parts _ _ (word_passes p8.0 block has)).1 rep;
        filled = eqb-true _ 0 (not-false _ (no_fault _ (StrayWord 0) pf.0));
        horizontal = λ block has. vx_range block (vector_passes p9.0 block has);
        vertical = λ block has. vy_range block (vector_passes p9.0 block has);
        within = λ line pel has has'. ltb-false top _ (or_parts _ _ (level_passes p9.1 line pel has has')).0;
        silent = λ line pel has has' gone. equals_true _ (pos 0) (but_not _ _ (or_parts _ _ (level_passes p9.1 line pel has has')).1 gone);
      }
