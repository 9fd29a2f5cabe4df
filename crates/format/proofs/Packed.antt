-- Bits packed into a number, and the number's bits.
use Rattle.std.proofs.Common.{◌≡◌, ℕ, zero, suc, ◌+◌, ◌-◌, ◌*◌, ◌/◌, ◌%◌, ◌^◌, ◌<◌, ◌≤◌, Bool, true, false, eqb, List, [], ◌∷◌, get_or, sym, refl, ap, ◌∙◌, ⊎_elim, mul_assoc, pow-suc, arith, lit<, pow_mono, shr-shr}
use native.Mathlib.Nat.{pow-succ', zero-div}
use mir.Val.{bool_byte}
use Rattle.std.proofs.lemmas.Bool.{cases_eq, eq-eqb, ne_eqb}
use Rattle.std.proofs.lemmas.Nat.{mod_below}
use Rattle.format.specs.Bits.{bit_at, stream_bit, digit, packed}
use Rattle.format.specs.Packing.{byte_of}

pub digit_most : (b : Bool) → digit b ≤ 1
digit_most true = omega arith
digit_most false = omega arith

-- a digit is 1 where its bit is set
pub digit_set : (b : Bool) → eqb (digit b) 1 ≡ b
digit_set true = refl
digit_set false = refl

-- a remainder by 2 is its own digit
pub digit_of : (x : ℕ) → x < 2 → digit (eqb x 1) ≡ x
digit_of x h =
    ⊎_elim (λ (e : x ≡ 1). ap digit (eq-eqb x 1 e) ∙ sym e)
    (λ (n : x ≡ 1 → ⊥). let z : x ≡ 0 = omega arith in ap digit (ne_eqb x 1 n) ∙ sym z)
    (cases_eq x 1)

pub bit_digit : (k x : ℕ) → digit (bit_at k x) ≡ x / 2 ^ k % 2
bit_digit k x = digit_of (x / 2 ^ k % 2) (mod_below (x / 2 ^ k) 2 (lit< tt))

-- the bits above the last are those of the half
pub bit_above : (k x : ℕ) → bit_at (k + 1) x ≡ bit_at k (x / 2)
bit_above k x =
    let e : k + 1 ≡ 1 + k = omega arith in
    ap (λ (n : ℕ). eqb (x / 2 ^ n % 2) 1) e ∙ sym (ap (λ (n : ℕ). eqb (n % 2) 1) (shr-shr x 1 k))

-- the same bits, from other places on
pub packed_same : (f g : ℕ → Bool) (a b count : ℕ) → ((j : ℕ) → j < count → f (a + j) ≡ g (b + j)) → packed f a count ≡ packed g b count
unfolding packed
packed_same f g a b zero each = refl
packed_same f g a b (suc count) each =
    let before = packed_same f g a b count (λ j h. each j (omega arith)) in
    let last = ap digit (each count (omega arith)) in
    omega arith

-- 0 has no bit set
pub bit_zero : (k : ℕ) → bit_at k 0 ≡ false
bit_zero k = ap (λ (n : ℕ). eqb (n % 2) 1) (zero-div (2 ^ k))

pub packed_below : (bit : ℕ → Bool) (start count : ℕ) → packed bit start count < 2 ^ count
unfolding packed
packed_below bit start zero = lit< tt
packed_below bit start (suc count) =
    let h = packed_below bit start count in
    let d = digit_most (bit (start + count)) in
    omega (arith, pow-suc 2 count)

-- fewer than eight bits make less than half of a byte's numbers
pub packed_short : (bit : ℕ → Bool) (start count : ℕ) → count < 8 → packed bit start count < 128
packed_short bit start count h =
    let b = packed_below bit start count in
    let most : count ≤ 7 = omega arith in
    let m : 2 ^ count ≤ 2 ^ 7 = pow_mono most in
    omega arith

pub packed_none : (bit : ℕ → Bool) (start : ℕ) → packed bit start 0 ≡ 0
unfolding packed
packed_none bit start = refl

-- one bit more
pub packed_more : (bit : ℕ → Bool) (start count : ℕ) → packed bit start (count + 1) ≡ 2 * packed bit start count + digit (bit (start + count))
unfolding packed
packed_more bit start count = let e : count + 1 ≡ suc count = omega arith in ap (packed bit start) e

pub bool_digit : (b : Bool) → bool_byte b ≡ digit b
bool_digit true = refl
bool_digit false = refl

-- bit j from the first on of what was packed
pub bit_packed : (bit : ℕ → Bool) (start count j : ℕ) → j < count → bit_at (count - 1 - j) (packed bit start count) ≡ bit (start + j)
unfolding packed
bit_packed bit start zero j h = absurd (omega arith)
bit_packed bit start (suc count) j h =
    let p = packed bit start count in
    let d = digit_most (bit (start + count)) in
    ⊎_elim
    (λ (same : j ≡ count).
    let e : suc count - 1 - j ≡ 0 = omega arith in
    let last : (2 * p + digit (bit (start + count))) / 1 % 2 ≡ digit (bit (start + count)) = omega arith in
    ap (λ (k : ℕ). bit_at k (2 * p + digit (bit (start + count)))) e ∙ ap (λ (n : ℕ). eqb n 1) last
    ∙ digit_set (bit (start + count)) ∙ ap (λ (k : ℕ). bit (start + k)) (sym same))
    (λ (other : j ≡ count → ⊥).
    let e : suc count - 1 - j ≡ count - 1 - j + 1 = omega arith in
    let half : (2 * p + digit (bit (start + count))) / 2 ≡ p = omega arith in
    ap (λ (k : ℕ). bit_at k (2 * p + digit (bit (start + count)))) e
    ∙ bit_above (count - 1 - j) (2 * p + digit (bit (start + count)))
    ∙ ap (bit_at (count - 1 - j)) half
    ∙ bit_packed bit start count j (omega arith))
    (cases_eq j count)

-- a number's own bits make it again
pub packed_bits : (bit : ℕ → Bool) (start count x : ℕ) → x < 2 ^ count
    → ((j : ℕ) → j < count → bit (start + j) ≡ bit_at (count - 1 - j) x) → packed bit start count ≡ x
unfolding packed
packed_bits bit start zero x below same = let one : 2 ^ 0 ≡ 1 = refl in omega arith
packed_bits bit start (suc count) x below same =
    let p = pow-suc 2 count in
    let e : suc count - 1 - count ≡ 0 = omega arith in
    let last : digit (bit (start + count)) ≡ x / 1 % 2 =
    ap digit (same count (omega arith) ∙ ap (λ (k : ℕ). bit_at k x) e) ∙ bit_digit 0 x in
    let front = packed_bits bit start count (x / 2) (omega arith)
    (λ j h. let f : suc count - 1 - j ≡ count - 1 - j + 1 = omega arith in
    same j (omega arith) ∙ ap (λ (k : ℕ). bit_at k x) f ∙ bit_above (count - 1 - j) x) in
    omega arith

-- a byte's eight bits make it again
pub byte_bits : (x : ℕ) → x < 256
    → byte_of (bit_at 7 x ∷ bit_at 6 x ∷ bit_at 5 x ∷ bit_at 4 x ∷ bit_at 3 x ∷ bit_at 2 x ∷ bit_at 1 x ∷ bit_at 0 x ∷ []) ≡ x
unfolding packed
byte_bits x below =
    let d7 = bit_digit 7 x in
    let d6 = bit_digit 6 x in
    let d5 = bit_digit 5 x in
    let d4 = bit_digit 4 x in
    let d3 = bit_digit 3 x in
    let d2 = bit_digit 2 x in
    let d1 = bit_digit 1 x in
    let d0 = bit_digit 0 x in
    omega arith

-- bit j from the first on of the byte that eight bits make
pub bit_byte : (bits : List Bool) (j : ℕ) → j < 8 → bit_at (8 - 1 - j) (byte_of bits) ≡ get_or bits (0 + j) false
bit_byte bits j h = bit_packed (λ (k : ℕ). get_or bits k false) 0 8 j h

-- more bits stand below the first ones
pub packed_split : (bit : ℕ → Bool) (start a b : ℕ) → packed bit start (a + b) ≡ 2 ^ b * packed bit start a + packed bit (start + a) b
unfolding packed
packed_split bit start a zero =
    let e : a + 0 ≡ a = omega arith in
    ap (packed bit start) e ∙ omega arith
packed_split bit start a (suc b) =
    let p = packed bit start a in
    let e : a + suc b ≡ suc (a + b) = omega arith in
    let place : start + (a + b) ≡ start + a + b = omega arith in
    let d = ap (λ (k : ℕ). digit (bit k)) place in
    let before = packed_split bit start a b in
    let power : 2 ^ suc b * p ≡ 2 * (2 ^ b * p) = ap (λ (n : ℕ). n * p) (pow-succ' 2 b) ∙ mul_assoc 2 (2 ^ b) p in
    ap (packed bit start) e ∙ omega arith

-- all bits are 0 where they make 0
pub packed_zero : (bit : ℕ → Bool) (start count j : ℕ) → packed bit start count ≡ 0 → j < count → bit (start + j) ≡ false
packed_zero bit start count j none h =
    sym (bit_packed bit start count j h) ∙ ap (bit_at (count - 1 - j)) none ∙ bit_zero (count - 1 - j)

-- bit j of byte i
pub bit_of_byte : (bytes : List ℕ) (i j : ℕ) → j < 8 → stream_bit bytes (8 * i + j) ≡ bit_at (7 - j) (get_or bytes i 0)
bit_of_byte bytes i j h =
    let d : (8 * i + j) / 8 ≡ i = omega arith in
    let r : 7 - (8 * i + j) % 8 ≡ 7 - j = omega arith in
    ap (λ (k : ℕ). bit_at k (get_or bytes ((8 * i + j) / 8) 0)) r ∙ ap (λ (k : ℕ). bit_at (7 - j) (get_or bytes k 0)) d

pub digit_same : (a b : Bool) → digit a ≡ digit b → a ≡ b
digit_same a b h = sym (digit_set a) ∙ ap (λ (n : ℕ). eqb n 1) h ∙ digit_set b
