-- Tests in order, from a place up to an end: the first refusal counts.
use Rattle.std.proofs.Common.{◌≡◌, ℕ, zero, suc, ◌+◌, ◌-◌, ◌<◌, ◌≤◌, Ok, Err, refl, ap, ◌∙◌, ⊎_elim, arith}
use Rattle.std.proofs.lemmas.Bool.{cases_eq}
use Rattle.std.specs.Result.{result_and}
use Rattle.format.specs.Usable.{Verdict, in_order}
use Rattle.format.specs.declared.refusal.Refusal.{Refusal}

module _ (test : ℕ → Verdict) where
  more : (i end : ℕ) → i < end → in_order test i (end - i) ≡ result_and (test i) (in_order test (i + 1) (end - (i + 1)))
  unfolding in_order
  more i end h =
      let e : end - i ≡ suc (end - (i + 1)) = omega arith in
      ap (in_order test i) e

  -- a refusal at the place is the answer
  pub in_order_here : (i end : ℕ) (refusal : Refusal) → i < end → test i ≡ Err refusal → in_order test i (end - i) ≡ Err refusal
  in_order_here i end refusal h e = more i end h ∙ ap (λ (v : Verdict). result_and v (in_order test (i + 1) (end - (i + 1)))) e

  -- the place passes, and those after it give the answer
  pub in_order_past : (i end : ℕ) → i < end → test i ≡ Ok tt → in_order test i (end - i) ≡ in_order test (i + 1) (end - (i + 1))
  in_order_past i end h e = more i end h ∙ ap (λ (v : Verdict). result_and v (in_order test (i + 1) (end - (i + 1)))) e

  -- all places have passed
  pub in_order_done : (i end : ℕ) → end ≤ i → in_order test i (end - i) ≡ Ok tt
  unfolding in_order
  in_order_done i end h =
      let e : end - i ≡ 0 = omega arith in
      ap (in_order test i) e

-- both of two tests pass where they pass in order
pub both_pass : (a b : Verdict) → result_and a b ≡ Ok tt → (a ≡ Ok tt) × (b ≡ Ok tt)
both_pass (Ok t) b h = (refl, h)
both_pass (Err e) b h = let z : ◌≡◌ {A = ℕ} 0 1 = cc in absurd (omega arith)

-- where all pass in order, each passes
pub in_order_all : (test : ℕ → Verdict) (start count : ℕ) → in_order test start count ≡ Ok tt
    → (k : ℕ) → start ≤ k → k < start + count → test k ≡ Ok tt
unfolding in_order
in_order_all test start zero h k low high = absurd (omega arith)
in_order_all test start (suc count) h k low high =
    let both = both_pass (test start) (in_order test (start + 1) count) h in
    ⊎_elim (λ (same : k ≡ start). ap test same ∙ both.0)
    (λ (other : k ≡ start → ⊥). in_order_all test (start + 1) count both.1 k (omega arith) (omega arith))
    (cases_eq k start)

pub both_from : (a b : Verdict) → a ≡ Ok tt → b ≡ Ok tt → result_and a b ≡ Ok tt
both_from a b h k = ap (λ (v : Verdict). result_and v b) h ∙ k

-- and where each passes, all pass in order
pub in_order_from : (test : ℕ → Verdict) (start count : ℕ) → ((k : ℕ) → start ≤ k → k < start + count → test k ≡ Ok tt)
    → in_order test start count ≡ Ok tt
unfolding in_order
in_order_from test start zero each = refl
in_order_from test start (suc count) each =
    both_from (test start) (in_order test (start + 1) count) (each start (omega arith) (omega arith))
    (in_order_from test (start + 1) count (λ k low high. each k (omega arith) (omega arith)))
