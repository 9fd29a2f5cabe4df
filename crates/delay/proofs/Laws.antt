-- Laws of delay memories, for whoever builds on them.
use Rattle.std.proofs.Common.{◌≡◌, ℕ, zero, suc, ◌+◌, ◌-◌, ◌*◌, ◌<◌, ◌≤◌, min, List, [], ◌∷◌, reverse, length, take, replicate, Some, sym, refl, ap, ◌∙◌, add-one, arith, length-take}
use lib.ListN.{length-replicate}
use Rattle.std.specs.List.{slice_get}
use Rattle.std.proofs.lemmas.List.{take-replicate, same_lists, length-reverse, get_or-reverse, get_or-replicate}
use Rattle.delay.specs.Delay.{look, entered}
use Rattle.delay.specs.Woven.{woven}
use Rattle.delay.proofs.Weaving.{woven_shortest}

module _ {X : Type 0} where
  slice_get-take : (k : ℕ) (xs : List X) (i : ℕ) → i < k → slice_get (take k xs) i ≡ slice_get xs i
  slice_get-take zero xs i h = absurd (omega arith)
  slice_get-take (suc k) [] i h = refl
  slice_get-take (suc k) (x ∷ xs) zero h = refl
  slice_get-take (suc k) (x ∷ xs) (suc i) h = slice_get-take k xs i (omega arith)

  -- the reach stays
  pub length-entered : (x : X) (xs : List X) → length (entered x xs) ≡ length xs
  length-entered x xs = length-take (length xs) (x ∷ xs) ∙ omega arith

  -- what was entered last is 1 back, and what was n back is one further back
  pub look_newest : (x : X) (xs : List X) → 0 < length xs → look (entered x xs) 1 ≡ Some x
  look_newest x [] h = absurd (omega arith)
  look_newest x (y ∷ ys) h = refl

  pub look_older : (x : X) (xs : List X) (n : ℕ) → 0 < n → n < length xs → look (entered x xs) (n + 1) ≡ look xs n
  look_older x xs zero pos h = absurd (omega arith)
  look_older x [] (suc m) pos h = absurd (omega arith)
  look_older x (y ∷ ys) (suc m) pos h = rw add-one (slice_get-take (length ys) (y ∷ ys) m (omega arith))

  -- the elements of a list entered one after another
  abbrev pub run : List X → List X → List X
  run xs [] = xs
  run xs (z ∷ zs) = run (entered z xs) zs

  -- what is n back is further back by each element that is entered after it, until it is dropped
  pub look_run : (xs zs : List X) (n : ℕ) → 0 < n → n + length zs ≤ length xs → look (run xs zs) (n + length zs) ≡ look xs n
  look_run xs [] n pos h = ap (look xs) (omega arith)
  look_run xs (z ∷ zs) n pos h =
      let more : n + length (z ∷ zs) ≡ (n + 1) + length zs = omega arith in
      let reach : length (entered z xs) ≡ length xs = length-entered z xs in
      ap (look (run (entered z xs) zs)) more
      ∙ look_run (entered z xs) zs (n + 1) (omega arith) (omega arith)
      ∙ look_older z xs n pos (omega arith)

  -- A memory of one element throughout, as of zeros: over such slices it opens so, and it stays so while that element is entered.
  pub reverse-replicate : (n : ℕ) (x : X) → reverse (replicate n x) ≡ replicate n x
  reverse-replicate n x =
      let count : length (replicate n x) ≡ n = length-replicate n x in
      same_lists (reverse (replicate n x)) (replicate n x) (length-reverse (replicate n x))
      (λ k d h.
      let inside : k < n = omega (arith, length-reverse (replicate n x)) in
      get_or-reverse (replicate n x) k d (omega arith)
      ∙ get_or-replicate n (length (replicate n x) - 1 - k) x d (omega arith)
      ∙ sym (get_or-replicate n k x d inside))

  pub entered-replicate : (n : ℕ) (x : X) → entered x (replicate n x) ≡ replicate n x
  entered-replicate n x =
      ap (λ k. take k (replicate (suc n) x)) (length-replicate n x) ∙ take-replicate n (suc n) x (omega arith)

  woven_same : (n a b c d : ℕ) (x : X) → n ≤ a → n ≤ b → n ≤ c → n ≤ d → woven n (replicate a x) (replicate b x) (replicate c x) (replicate d x) ≡ replicate (n * 4) x
  woven_same zero a b c d x ha hb hc hd = refl
  woven_same (suc n) zero b c d x ha hb hc hd = absurd (omega arith)
  woven_same (suc n) (suc a) zero c d x ha hb hc hd = absurd (omega arith)
  woven_same (suc n) (suc a) (suc b) zero d x ha hb hc hd = absurd (omega arith)
  woven_same (suc n) (suc a) (suc b) (suc c) zero x ha hb hc hd = absurd (omega arith)
  woven_same (suc n) (suc a) (suc b) (suc c) (suc d) x ha hb hc hd =
      let turn : suc (suc (suc (suc (n * 4)))) ≡ suc n * 4 = omega arith in
      ap (λ l. x ∷ x ∷ x ∷ x ∷ l) (woven_same n a b c d x (omega arith) (omega arith) (omega arith) (omega arith)) ∙ ap (λ k. replicate k x) turn

  pub woven-replicate : (n a b c d : ℕ) (x : X) → woven n (replicate a x) (replicate b x) (replicate c x) (replicate d x) ≡ replicate (min (min (min (min n a) b) c) d * 4) x
  woven-replicate n a b c d x =
      let m = min (min (min (min n a) b) c) d in
      sym (woven_shortest m n (replicate a x) (replicate b x) (replicate c x) (replicate d x) (simp length-replicate))
      ∙ woven_same m a b c d x (omega arith) (omega arith) (omega arith) (omega arith)
