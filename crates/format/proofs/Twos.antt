-- Integers by tests, and the range of two's complement.
use Rattle.std.proofs.Common.{◌≡◌, ℕ, suc, ◌+◌, ◌-◌, ◌*◌, ◌<◌, ◌≤◌, true, false, ltb, ℤ, pos, negsuc, ◌-ℤ◌, nat_abs, sym, ap, ◌∙◌, ⊎_elim, arith}
use Rattle.std.proofs.lemmas.Int.{ints}
use Rattle.std.proofs.lemmas.Bool.{cases_lt, lt-ltb, le-ltb, ltb-true, eqb-true, true≢false, cond-true, cond-false}
use Rattle.format.specs.Bits.{twos_complement}
use Rattle.format.specs.Packing.{twos_field}
use Rattle.format.specs.Survival.{in_field}
use Rattle.format.specs.Usable.{equals}

pub equals_true : (a b : ℤ) → equals a b ≡ true → a ≡ b
equals_true (pos a) (pos b) h = ap pos (eqb-true a b h)
equals_true (pos a) (negsuc b) h = absurd (true≢false (sym h))
equals_true (negsuc a) (pos b) h = absurd (true≢false (sym h))
equals_true (negsuc a) (negsuc b) h = ap negsuc (eqb-true a b h)

-- but for the least number, as many lie below 0 as above
pub twos_range : (half field : ℕ) → field < 2 * half → (field ≡ half → ⊥) → nat_abs (twos_complement half field) ≤ half - 1
twos_range half field below other =
    ⊎_elim
    (λ (low : field < half).
    let e = cond-true (ltb field half) (pos field) (pos field -ℤ pos (2 * half)) (lt-ltb field half low) in
    let n : nat_abs (twos_complement half field) ≡ field = ap nat_abs e in
    omega arith)
    (λ (high : half ≤ field).
    let e = cond-false (ltb field half) (pos field) (pos field -ℤ pos (2 * half)) (le-ltb field half high) in
    let m : pos field -ℤ pos (2 * half) ≡ negsuc (2 * half - field - 1) = omega (arith, ints) in
    let n : nat_abs (twos_complement half field) ≡ suc (2 * half - field - 1) = ap nat_abs (e ∙ m) in
    omega arith)
    (cases_lt field half)

-- a field that is not the least number of its range
pub twos_but_least : (half field : ℕ) (least : ℤ) → field < 2 * half → equals (twos_complement half half) least ≡ true
    → equals (twos_complement half field) least ≡ false → nat_abs (twos_complement half field) ≤ half - 1
twos_but_least half field least below is not_least =
    twos_range half field below
    (λ same. true≢false (sym is ∙ sym (ap (λ (n : ℕ). equals (twos_complement half n) least) same) ∙ not_least))

-- a number that its field holds is read back
pub twos_back : (half : ℕ) (z : ℤ) → in_field half z ≡ true → twos_complement half (twos_field half z) ≡ z
twos_back half (pos n) h = cond-true (ltb n half) (pos n) (pos n -ℤ pos (2 * half)) h
twos_back half (negsuc n) h =
    let below = ltb-true n half h in
    let field = 2 * half - (n + 1) in
    let e = cond-false (ltb field half) (pos field) (pos field -ℤ pos (2 * half)) (le-ltb field half (omega arith)) in
    e ∙ omega (arith, ints)

-- a field is written again
pub twos_again : (half field : ℕ) → field < 2 * half → twos_field half (twos_complement half field) ≡ field
twos_again half field below =
    ⊎_elim
    (λ (low : field < half).
    ap (twos_field half) (cond-true (ltb field half) (pos field) (pos field -ℤ pos (2 * half)) (lt-ltb field half low)))
    (λ (high : half ≤ field).
    let e = cond-false (ltb field half) (pos field) (pos field -ℤ pos (2 * half)) (le-ltb field half high) in
    let m : pos field -ℤ pos (2 * half) ≡ negsuc (2 * half - field - 1) = omega (arith, ints) in
    ap (twos_field half) (e ∙ m) ∙ omega arith)
    (cases_lt field half)

-- a number in reach of less than half is in its field
pub in_field_lem : (half : ℕ) (z : ℤ) → nat_abs z < half → in_field half z ≡ true
in_field_lem half (pos n) h = lt-ltb n half h
in_field_lem half (negsuc n) h = lt-ltb n half (omega arith)

pub field_most : (half : ℕ) (z : ℤ) → in_field half z ≡ true → twos_field half z < 2 * half
field_most half (pos n) h = omega (arith, ltb-true n half h)
field_most half (negsuc n) h = omega (arith, ltb-true n half h)
