-- Pels that differ, counted one after another.
use Rattle.std.proofs.Common.{◌≡◌, ℕ, zero, suc, ◌+◌, Bool, true, false, cond, not, List, [], ◌∷◌, map, length, ℤ, refl, ap, sym, subst, ◌∙◌, length-append, add-one, zero-add}
use Rattle.std.specs.List.{range_with_len, filter}
use Rattle.std.proofs.lemmas.List.{map-id}
use Rattle.std.proofs.lemmas.List.FromFn.{filter_of_map_range_with_len_more}
use Rattle.codec.specs.Signal.{pel_at}
use Rattle.format.specs.Bits.{digit}
use Rattle.format.specs.Usable.{equals}
use Rattle.law.specs.Compare.{differ_at, differing_pels}

-- the pels after n newer ones are not the same
abbrev pub differ_after : List ℤ → List ℤ → ℕ → Bool
differ_after xs ys n = not (equals (pel_at xs (n + 1)) (pel_at ys (n + 1)))

length_of_one : (b : Bool) (n : ℕ) → length (cond b (n ∷ []) []) ≡ digit b
length_of_one true n = refl
length_of_one false n = refl

counted : (xs ys : List ℤ) (n : ℕ) → length (filter (differ_after xs ys) (map (λ k. k) (range_with_len 0 n))) ≡ differing_pels xs ys n
counted xs ys zero = refl
counted xs ys (suc n) =
    let test = differ_after xs ys in
    let all : ℕ → List ℕ = λ (k : ℕ). filter test (map (λ (i : ℕ). i) (range_with_len 0 k)) in
    let among : ℕ → Type 0 = λ (k : ℕ). length (all k) ≡ differing_pels xs ys n + differ_at xs ys k in
    let one_more : among (n + 1) =
    ap length (filter_of_map_range_with_len_more test (λ (k : ℕ). k) 0 n n (zero-add n))
    ∙ length-append (all n) (cond (test n) (n ∷ []) [])
    ∙ ap (λ (k : ℕ). k + length (cond (test n) (n ∷ []) [])) (counted xs ys n)
    ∙ ap (λ (k : ℕ). differing_pels xs ys n + k) (length_of_one (test n) n) in
    subst among (add-one n) one_more

pub counted_as : (xs ys : List ℤ) (n : ℕ) → length (filter (differ_after xs ys) (range_with_len 0 n)) ≡ differing_pels xs ys n
counted_as xs ys n = ap (λ (all : List ℕ). length (filter (differ_after xs ys) all)) (sym (map-id (range_with_len 0 n))) ∙ counted xs ys n
