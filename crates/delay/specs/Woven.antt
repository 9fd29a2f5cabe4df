-- What four banks hold that take elements in turn.
use Rattle.std.specs.Prelude.{ℕ, zero, suc, ◌^◌, List, [], ◌∷◌}

-- One element of each bank in turn, for as many turns as every bank lasts, and at most n.
abbrev pub woven : {X : Type 0} → ℕ → List X → List X → List X → List X → List X
woven zero ws xs ys zs = []
woven (suc n) [] xs ys zs = []
woven (suc n) (w ∷ ws) [] ys zs = []
woven (suc n) (w ∷ ws) (x ∷ xs) [] zs = []
woven (suc n) (w ∷ ws) (x ∷ xs) (y ∷ ys) [] = []
woven (suc n) (w ∷ ws) (x ∷ xs) (y ∷ ys) (z ∷ zs) = w ∷ x ∷ y ∷ z ∷ woven n ws xs ys zs

-- no bank of a memory is used to more cells than these
abbrev pub most_rows : ℕ
most_rows = 2 ^ 24
