-- The places of four banks that take elements in turn: the turn is the row, and the bank is the place within the turn.
use Rattle.std.proofs.Common.{◌≡◌, ℕ, zero, suc, pred, ◌+◌, ◌*◌, ◌<◌, ◌≤◌, min, true, false, cond, eqb, List, [], ◌∷◌, length, get_or, set, sym, refl, ap, ◌∙◌, arith}
use Rattle.std.proofs.Math.Nat.{suc-min-suc}
use Rattle.delay.specs.Woven.{woven}

next_turn : (row k : ℕ) → suc row * 4 + k ≡ suc (suc (suc (suc (row * 4 + k))))
next_turn row k = omega arith

module _ {X : Type 0} where
  -- banks that last n turns
  pub record Last (n : ℕ) (ws xs ys zs : List X) : Type 0 where
    pub first : n ≤ length ws
    pub second : n ≤ length xs
    pub third : n ≤ length ys
    pub fourth : n ≤ length zs

  -- what holds of no turns, and of one turn more, holds of all of them
  by_turns : (P : ℕ → List X → List X → List X → List X → Type 0) → ((ws xs ys zs : List X) → P 0 ws xs ys zs) → ((n : ℕ) (w x y z : X) (ws xs ys zs : List X) → P n ws xs ys zs → P (suc n) (w ∷ ws) (x ∷ xs) (y ∷ ys) (z ∷ zs)) → (n : ℕ) (ws xs ys zs : List X) → Last n ws xs ys zs → P n ws xs ys zs
  by_turns P none more zero ws xs ys zs h = none ws xs ys zs
  by_turns P none more (suc n) [] xs ys zs h = absurd (omega arith)
  by_turns P none more (suc n) (w ∷ ws) [] ys zs h = absurd (omega arith)
  by_turns P none more (suc n) (w ∷ ws) (x ∷ xs) [] zs h = absurd (omega arith)
  by_turns P none more (suc n) (w ∷ ws) (x ∷ xs) (y ∷ ys) [] h = absurd (omega arith)
  by_turns P none more (suc n) (w ∷ ws) (x ∷ xs) (y ∷ ys) (z ∷ zs) h =
      more n w x y z ws xs ys zs (by_turns P none more n ws xs ys zs (record { first = omega arith; second = omega arith; third = omega arith; fourth = omega arith }))

  -- four elements a turn
  pub length-woven : (n : ℕ) (ws xs ys zs : List X) → Last n ws xs ys zs → length (woven n ws xs ys zs) ≡ n * 4
  length-woven =
      by_turns (λ n ws xs ys zs. length (woven n ws xs ys zs) ≡ n * 4)
      (λ ws xs ys zs. refl)
      (λ n w x y z ws xs ys zs more. omega arith)

  -- the turns end with the shortest bank
  pub woven_shortest : (m n : ℕ) (ws xs ys zs : List X) → m ≡ min (min (min (min n (length ws)) (length xs)) (length ys)) (length zs) → woven m ws xs ys zs ≡ woven n ws xs ys zs
  woven_shortest zero zero ws xs ys zs e = refl
  woven_shortest (suc m) zero ws xs ys zs e = absurd (omega arith)
  woven_shortest zero (suc n) [] xs ys zs e = refl
  woven_shortest zero (suc n) (w ∷ ws) [] ys zs e = refl
  woven_shortest zero (suc n) (w ∷ ws) (x ∷ xs) [] zs e = refl
  woven_shortest zero (suc n) (w ∷ ws) (x ∷ xs) (y ∷ ys) [] e = refl
  woven_shortest zero (suc n) (w ∷ ws) (x ∷ xs) (y ∷ ys) (z ∷ zs) e = absurd (omega arith)
  woven_shortest (suc m) (suc n) [] xs ys zs e = absurd (omega arith)
  woven_shortest (suc m) (suc n) (w ∷ ws) [] ys zs e = absurd (omega arith)
  woven_shortest (suc m) (suc n) (w ∷ ws) (x ∷ xs) [] zs e = absurd (omega arith)
  woven_shortest (suc m) (suc n) (w ∷ ws) (x ∷ xs) (y ∷ ys) [] e = absurd (omega arith)
  woven_shortest (suc m) (suc n) (w ∷ ws) (x ∷ xs) (y ∷ ys) (z ∷ zs) e =
      ap (λ l. w ∷ x ∷ y ∷ z ∷ l) (woven_shortest m n ws xs ys zs (ap pred (simp suc-min-suc at e)))

  -- the bank of the place k within a turn
  abbrev pub bank : ℕ → List X → List X → List X → List X → List X
  bank zero ws xs ys zs = ws
  bank (suc zero) ws xs ys zs = xs
  bank (suc (suc zero)) ws xs ys zs = ys
  bank (suc (suc (suc k))) ws xs ys zs = zs

  -- the bank j after v is written at a row of the bank k
  abbrev pub written : ℕ → ℕ → ℕ → X → List X → List X
  written j k row v l = cond (eqb j k) (set l row v) l

  written_more : (j k row : ℕ) (v x : X) (xs : List X) → written j k (suc row) v (x ∷ xs) ≡ x ∷ written j k row v xs
  written_more j k row v x xs =
      elim (eqb j k) as (λ t. cond t (set (x ∷ xs) (suc row) v) (x ∷ xs) ≡ x ∷ cond t (set xs row v) xs) [ true ↦ refl | false ↦ refl ]

  bank_more : (k row : ℕ) (d w x y z : X) (ws xs ys zs : List X) → get_or (bank k (w ∷ ws) (x ∷ xs) (y ∷ ys) (z ∷ zs)) (suc row) d ≡ get_or (bank k ws xs ys zs) row d
  bank_more zero row d w x y z ws xs ys zs = refl
  bank_more (suc zero) row d w x y z ws xs ys zs = refl
  bank_more (suc (suc zero)) row d w x y z ws xs ys zs = refl
  bank_more (suc (suc (suc k))) row d w x y z ws xs ys zs = refl

  -- What is said of the place of each row and bank, and how it follows for one turn more.
  abbrev Reads : ℕ → List X → List X → List X → List X → Type 0
  Reads n ws xs ys zs = (row k : ℕ) (d : X) → row < n → k < 4 → get_or (woven n ws xs ys zs) (row * 4 + k) d ≡ get_or (bank k ws xs ys zs) row d

  reads_more : (n : ℕ) (w x y z : X) (ws xs ys zs : List X) → Reads n ws xs ys zs → Reads (suc n) (w ∷ ws) (x ∷ xs) (y ∷ ys) (z ∷ zs)
  reads_more n w x y z ws xs ys zs more zero zero d h l = refl
  reads_more n w x y z ws xs ys zs more zero (suc zero) d h l = refl
  reads_more n w x y z ws xs ys zs more zero (suc (suc zero)) d h l = refl
  reads_more n w x y z ws xs ys zs more zero (suc (suc (suc zero))) d h l = refl
  reads_more n w x y z ws xs ys zs more zero (suc (suc (suc (suc k)))) d h l = absurd (omega arith)
  reads_more n w x y z ws xs ys zs more (suc row) k d h l =
      ap (λ i. get_or (w ∷ x ∷ y ∷ z ∷ woven n ws xs ys zs) i d) (next_turn row k)
      ∙ more row k d (omega arith) l
      ∙ sym (bank_more k row d w x y z ws xs ys zs)

  abbrev Writes : ℕ → List X → List X → List X → List X → Type 0
  Writes n ws xs ys zs = (row k : ℕ) (v : X) → row < n → k < 4 → set (woven n ws xs ys zs) (row * 4 + k) v ≡ woven n (written 0 k row v ws) (written 1 k row v xs) (written 2 k row v ys) (written 3 k row v zs)

  writes_more : (n : ℕ) (w x y z : X) (ws xs ys zs : List X) → Writes n ws xs ys zs → Writes (suc n) (w ∷ ws) (x ∷ xs) (y ∷ ys) (z ∷ zs)
  writes_more n w x y z ws xs ys zs more zero zero v h l = refl
  writes_more n w x y z ws xs ys zs more zero (suc zero) v h l = refl
  writes_more n w x y z ws xs ys zs more zero (suc (suc zero)) v h l = refl
  writes_more n w x y z ws xs ys zs more zero (suc (suc (suc zero))) v h l = refl
  writes_more n w x y z ws xs ys zs more zero (suc (suc (suc (suc k)))) v h l = absurd (omega arith)
  writes_more n w x y z ws xs ys zs more (suc row) k v h l =
      simp (next_turn row k, written_more) (ap (λ t. w ∷ x ∷ y ∷ z ∷ t) (more row k v (omega arith) l))

  -- the place of a row and a bank holds that bank's element, and a write there is a write to that bank
  pub get_or-woven : (n : ℕ) (ws xs ys zs : List X) → Last n ws xs ys zs → Reads n ws xs ys zs
  get_or-woven = by_turns Reads (λ ws xs ys zs row k d over l. absurd (omega arith)) reads_more

  pub set_woven : (n : ℕ) (ws xs ys zs : List X) → Last n ws xs ys zs → Writes n ws xs ys zs
  set_woven = by_turns Writes (λ ws xs ys zs row k d over l. absurd (omega arith)) writes_more
