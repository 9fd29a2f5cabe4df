-- What an array holds that a closure made, index by index.
use Rattle.std.proofs.Common.{◌≡◌, ℕ, zero, suc, ◌+◌, ◌<◌, List, get_or, sym, ap, subst, ◌∙◌, arith}
use Rattle.std.specs.Array.{IsFromFnResultFrom, IsFromFnResult}
use Rattle.std.specs.Fn.{Mut, Called}

module _ {F B : Type 0} (g : Mut F (ℕ × Unit {0}) B) (P : ℕ → B → Type 0) (f : F) (ys : List B) (d : B) (most : ℕ)
    (turn : (i : ℕ) (y : B) (q : F) → i < most → Called g f (i, tt) y q → P i y × (q ≡ f)) where
  from : (n i j : ℕ) → IsFromFnResultFrom g f ys i n → i + n ≡ most → j < n → P (i + j) (get_or ys (i + j) d)
  from (suc n) i zero h e l =
      let y = h.1 in
      let at : get_or ys (i + 0) d ≡ y = ap (λ (k : ℕ). get_or ys k d) (omega arith) ∙ h.2.1 d in
      subst (λ (k : ℕ). P k (get_or ys (i + 0) d)) (omega arith) (subst (P i) (sym at) (turn i y h.0 (omega arith) h.3).0)
  from (suc n) i (suc j) h e l =
      let y = h.1 in
      let rest = subst (λ (q : F). IsFromFnResultFrom g q ys (i + 1) n) (turn i y h.0 (omega arith) h.3).1 h.4 in
      subst (λ (k : ℕ). P k (get_or ys k d)) (omega arith) (from n (i + 1) j rest (omega arith) (omega arith))
  from zero i j h e l = absurd (omega arith)

  -- each element is what its turn made
  pub made : IsFromFnResult g f ys most → (j : ℕ) → j < most → P j (get_or ys j d)
  made h j l = subst (λ (k : ℕ). P k (get_or ys k d)) (omega arith) (from most 0 j h.each (omega arith) l)
