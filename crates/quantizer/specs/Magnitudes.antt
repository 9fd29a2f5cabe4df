-- A characteristic that is symmetrical about zero keeps the rules where its sizes keep them.
use Rattle.std.specs.Prelude.{◌≡◌, ℕ, zero, suc, ◌+◌, ◌<◌, ◌≤◌, ℤ, pos, negsuc, neg_ℤ, ◌≤ℤ◌, ◌<ℤ◌, unsigned_abs, refl}
use Rattle.std.proofs.Common.{sym, ap, subst, ◌∙◌, inl, inr, arith}
use Rattle.std.proofs.Math.IntN.{neg_ℤ-neg_ℤ}
use Rattle.std.proofs.lemmas.Int.{ints}
use Rattle.std.proofs.lemmas.Bool.{le-ltb, cases_lt}
use Rattle.quantizer.specs.Lawful.{Lawful, KeepsSign, largest_error, near_limit, far_least, overshoot_most}
use Rattle.quantizer.specs.Symmetry.{with_sign, symmetrical}

-- the rules, of sizes alone
pub record Sized (top shortfall : ℕ) (step output : ℕ → ℕ) : Type 0 where
  pub top_least : 1 ≤ top
  pub top_most : top ≤ 127
  pub shortfall_least : 3 ≤ shortfall
  pub shortfall_most : shortfall ≤ 6
  -- 0 is the number of 0 and its value
  pub zero_step : step 0 ≡ 0
  pub zero_output : output 0 ≡ 0
  pub rises : (k : ℕ) → k < top → output k < output (suc k)
  pub top_value_least : far_least ≤ output top
  pub top_value_most : output top ≤ 127
  pub step_in_range : (m : ℕ) → m ≤ largest_error → step m ≤ top
  pub overshoot : (m : ℕ) → m ≤ largest_error → output (step m) ≤ m + overshoot_most
  pub shortfall_kept : (m : ℕ) → m ≤ near_limit → m ≤ output (step m) + shortfall
  pub far : (m : ℕ) → near_limit < m → m ≤ largest_error → far_least ≤ output (step m)

-- from 0 up the sign is no minus
at_pos : (f : ℕ → ℕ) (n : ℕ) → symmetrical f (pos n) ≡ pos (f n)
at_pos f n = ap (λ b. with_sign b (f n)) (le-ltb n 0 (omega arith))

-- opposite numbers have one size
pub size_negℤ : (z : ℤ) → unsigned_abs (neg_ℤ z) ≡ unsigned_abs z
size_negℤ (pos zero) = refl
size_negℤ (pos (suc n)) = refl
size_negℤ (negsuc n) = refl

-- the size goes through f
pub size_of : (f : ℕ → ℕ) (z : ℤ) → unsigned_abs (symmetrical f z) ≡ f (unsigned_abs z)
size_of f (pos n) = ap unsigned_abs (at_pos f n)
size_of f (negsuc n) = size_negℤ (pos (f (suc n)))

pub opposed : (f : ℕ → ℕ) → f 0 ≡ 0 → (z : ℤ) → symmetrical f (neg_ℤ z) ≡ neg_ℤ (symmetrical f z)
opposed f e (pos zero) = at_pos f 0 ∙ ap pos e ∙ sym (ap neg_ℤ (at_pos f 0 ∙ ap pos e))
opposed f e (pos (suc n)) = sym (ap neg_ℤ (at_pos f (suc n)))
opposed f e (negsuc n) = at_pos f (suc n) ∙ sym (neg_ℤ-neg_ℤ (pos (f (suc n))))

-- one after the other, with 0 kept at 0
pub after : (f g : ℕ → ℕ) → g 0 ≡ 0 → (z : ℤ) → symmetrical g (symmetrical f z) ≡ symmetrical (λ m. g (f m)) z
after f g e (pos n) = ap (symmetrical g) (at_pos f n) ∙ at_pos g (f n) ∙ sym (at_pos (λ m. g (f m)) n)
after f g e (negsuc n) = opposed g e (pos (f (suc n))) ∙ ap neg_ℤ (at_pos g (f (suc n)))

sign_pos : (n k : ℕ) → 0 < n → KeepsSign (pos n) (pos k)
sign_pos n zero h = tt
sign_pos n (suc k) h = omega (arith, ints)

sign_neg : (n k : ℕ) → KeepsSign (negsuc n) (neg_ℤ (pos k))
sign_neg n zero = tt
sign_neg n (suc k) = omega (arith, ints)

pub keeps_sign : (f : ℕ → ℕ) → f 0 ≡ 0 → (z : ℤ) → KeepsSign z (symmetrical f z)
keeps_sign f e (pos zero) = subst (KeepsSign (pos 0)) (sym (at_pos f 0 ∙ ap pos e)) tt
keeps_sign f e (pos (suc n)) = subst (KeepsSign (pos (suc n))) (sym (at_pos f (suc n))) (sign_pos (suc n) (f (suc n)) (omega arith))
keeps_sign f e (negsuc n) = sign_neg n (f (suc n))

module _ (f : ℕ → ℕ) (top : ℕ) (rises : (k : ℕ) → k < top → f k < f (suc k)) where
  -- what rises from each number to the next rises from each to any larger
  pub rising : (m n : ℕ) → m < n → n ≤ top → f m < f n
  rising m zero h t = absurd (omega arith)
  rising m (suc n) h t =
      elim (cases_lt m n) [
        | inl l ↦ omega (arith, rising m n l (omega arith), rises n (omega arith))
        | inr g ↦ let e : m ≡ n = omega arith in subst (λ k. f k < f (suc n)) (sym e) (rises n (omega arith))
      ]

  pub larger_of : f 0 ≡ 0 → (y z : ℤ) → unsigned_abs y ≤ top → unsigned_abs z ≤ top → y <ℤ z → symmetrical f y <ℤ symmetrical f z
  larger_of e (pos a) (pos b) s t h =
      let up : f a < f b = rising a b (omega (arith, ints)) t in
      let u : pos (f a) <ℤ pos (f b) = omega (arith, ints) in
      subst (λ v. v <ℤ symmetrical f (pos b)) (sym (at_pos f a)) (subst (λ v. pos (f a) <ℤ v) (sym (at_pos f b)) u)
  larger_of e (negsuc a) (pos b) s t h =
      let up : f 0 < f (suc a) = rising 0 (suc a) (omega arith) s in
      let u : neg_ℤ (pos (f (suc a))) <ℤ pos (f b) = omega (arith, ints) in
      subst (λ v. neg_ℤ (pos (f (suc a))) <ℤ v) (sym (at_pos f b)) u
  larger_of e (pos a) (negsuc b) s t h = absurd (omega (arith, ints))
  larger_of e (negsuc a) (negsuc b) s t h =
      let up : f (suc b) < f (suc a) = rising (suc b) (suc a) (omega (arith, ints)) s in
      omega (arith, ints)

module _ (top shortfall : ℕ) (step output : ℕ → ℕ) (sized : Sized top shortfall step output) where
  size_both : (e : ℤ) → unsigned_abs (symmetrical output (symmetrical step e)) ≡ output (step (unsigned_abs e))
  size_both e = size_of output (symmetrical step e) ∙ ap output (size_of step e)

  pub lawful : Lawful top shortfall (symmetrical step) (symmetrical output)
  lawful = record {
    top_least = sized.top_least;
    top_most = sized.top_most;
    shortfall_least = sized.shortfall_least;
    shortfall_most = sized.shortfall_most;
    opposite = λ n _. opposed output sized.zero_output n;
    larger = larger_of output top sized.rises sized.zero_output;
    top_value_least = subst (λ v. pos far_least ≤ℤ v) (sym (at_pos output top)) (let h = sized.top_value_least in omega (arith, ints));
    top_value_most = subst (λ v. v ≤ℤ pos 127) (sym (at_pos output top)) (let h = sized.top_value_most in omega (arith, ints));
    number_in_range = λ e h. omega (arith, size_of step e, sized.step_in_range (unsigned_abs e) h);
    sign = λ e h. subst (KeepsSign e) (sym (after step output sized.zero_output e)) (keeps_sign (λ m. output (step m)) (ap output sized.zero_step ∙ sized.zero_output) e);
    overshoot = λ e h. omega (arith, size_both e, sized.overshoot (unsigned_abs e) h);
    shortfall_kept = λ e h. omega (arith, size_both e, sized.shortfall_kept (unsigned_abs e) h);
    far = λ e g h. omega (arith, size_both e, sized.far (unsigned_abs e) g h);
  }
