-- How large the levels of a line may be, and what a line's test answers by that.
use Rattle.std.proofs.Common.{◌≡◌, ℕ, zero, suc, ◌+◌, ◌-◌, ◌*◌, ◌<◌, ◌≤◌, Bool, true, false, cond, not, ◌||◌, ltb, List, length, get_or, ℤ, pos, negsuc, nat_abs, Ok, sym, refl, ap, ap₂, ◌∙◌, arith}
use Rattle.std.proofs.lemmas.Bool.{le-ltb, lt-ltb, ne_eqb}
use Rattle.format.specs.Bits.{level_of}
use Rattle.format.specs.Raster.{width, line_levels}
use Rattle.format.specs.Record.{line_in, level_in}
use Rattle.format.specs.Usable.{refuse_if, omitted, bad_level, Largest, AllWithin, level_test, line_test}
use Rattle.format.specs.declared.raster.Raster.{Raster}
use Rattle.format.specs.declared.refusal.Refusal.TheVariants.{LevelValue}
use Rattle.format.proofs.InOrder.{in_order_from}
use Rattle.format.proofs.Verdicts.{passes}

or_none : (b : Bool) → (b || false) ≡ b
or_none true = refl
or_none false = refl

or_all : (b : Bool) → (b || true) ≡ true
or_all true = refl
or_all false = refl

-- a level is bad that is larger than it may be
bad_size : (top : ℕ) (gone : Bool) (z : ℤ) → bad_level top gone z ≡ ltb (cond gone 0 top) (nat_abs z)
bad_size top false z = or_none (ltb top (nat_abs z))
bad_size top true (pos zero) = or_none (ltb top 0) ∙ le-ltb top 0 (omega arith)
bad_size top true (pos (suc n)) =
    ap (λ b. ltb top (suc n) || not b) (ne_eqb (suc n) 0 (λ e. omega arith)) ∙ or_all (ltb top (suc n)) ∙ sym (lt-ltb 0 (suc n) (omega arith))
bad_size top true (negsuc n) = or_all (ltb top (suc n)) ∙ sym (lt-ltb 0 (suc n) (omega arith))

module _ (raster : Raster) (sbc : Bool) (top : ℕ) (bytes : List ℕ) (line : ℕ) (levels sizes : List ℕ)
    (read : levels ≡ line_in raster bytes line) (known : Largest raster sbc top bytes line sizes) where
  abbrev pub too_large : ℕ → Bool
  too_large pel = ltb (get_or sizes (pel - 4) 0) (nat_abs (level_of (get_or levels (pel - 4) 0)))

  -- the test of a level by its size
  pub size_test : (pel : ℕ) → 4 ≤ pel → pel < 4 + line_levels raster
      → level_test raster sbc top bytes line pel ≡ refuse_if (too_large pel) (LevelValue ((line - 1) * width raster + pel))
  unfolding level_test level_in
  size_test pel low high =
      let place : pel - 4 + 4 ≡ pel = omega arith in
      let most : get_or sizes (pel - 4) 0 ≡ cond (omitted raster sbc bytes line pel) 0 top =
      known (pel - 4) (omega arith) ∙ ap (λ k. cond (omitted raster sbc bytes line k) 0 top) place in
      let level : level_in raster bytes line pel ≡ level_of (get_or levels (pel - 4) 0) = ap (λ xs. level_of (get_or xs (pel - 4) 0)) (sym read) in
      ap (λ b. refuse_if b (LevelValue ((line - 1) * width raster + pel)))
      (bad_size top (omitted raster sbc bytes line pel) (level_in raster bytes line pel)
      ∙ ap₂ (λ most z. ltb most (nat_abs z)) (sym most) level)

  -- a line passes where all levels are at most as large as they may be
  pub line_passes : length levels ≡ line_levels raster → AllWithin levels sizes → line_test raster sbc top bytes line ≡ Ok tt
  unfolding line_test
  line_passes count within =
      in_order_from (level_test raster sbc top bytes line) 4 (line_levels raster)
      (λ pel low high.
      size_test pel low high
      ∙ passes (too_large pel) (LevelValue ((line - 1) * width raster + pel)) (le-ltb _ _ (within (pel - 4) (omega arith))))
