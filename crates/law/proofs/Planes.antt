-- Planes: the exclusive or of pels, and in which planes two lists of pels differ.
use Rattle.std.proofs.Common.{◌≡◌, ℕ, zero, suc, ◌+◌, ◌/◌, ◌%◌, ◌^◌, ◌<◌, Bool, true, false, not, eqb, List, [], ◌∷◌, ◌++◌, map, length, ℤ, sym, refl, ap, ◌∙◌, ap₂, arith, lit<}
use lib.Bits.{bit_xor, xor_assoc, xor_shr, xor_mod}
use Rattle.std.proofs.lemmas.Nat.{mod_below}
use Rattle.std.proofs.lemmas.List.{map-append}
use Rattle.std.proofs.lemmas.Bool.{eq-eqb, ne_eqb}
use Rattle.format.specs.Bits.{bit_at, digit}
use Rattle.format.proofs.Packed.{bit_zero}
use Rattle.prediction.specs.Rules.{byte}
use Rattle.law.specs.Law.{IsParity, ones_in, unlike, differing, Names}

-- the exclusive or of a list of numbers
abbrev pub xor_all : List ℕ → ℕ
xor_all [] = 0
xor_all (x ∷ xs) = bit_xor x (xor_all xs)

-- the planes of a list of pels
abbrev pub planes_of : List ℤ → ℕ
planes_of ys = xor_all (map byte ys)

pub xor_append : (xs ys : List ℕ) → xor_all (xs ++ ys) ≡ bit_xor (xor_all xs) (xor_all ys)
xor_append [] ys = refl
xor_append (x ∷ xs) ys = ap (bit_xor x) (xor_append xs ys) ∙ sym (xor_assoc x (xor_all xs) (xor_all ys))

-- the planes of two lists of pels together
pub planes-append : (ys zs : List ℤ) → planes_of (ys ++ zs) ≡ bit_xor (planes_of ys) (planes_of zs)
planes-append ys zs = ap xor_all (map-append byte ys zs) ∙ xor_append (map byte ys) (map byte zs)

-- of one bit each
one_bit : (x y : ℕ) → x < 2 → y < 2 → eqb (bit_xor x y) 1 ≡ unlike (eqb x 1) (eqb y 1)
one_bit zero y hx hy = refl
one_bit (suc zero) zero hx hy = refl
one_bit (suc zero) (suc zero) hx hy = refl
one_bit (suc zero) (suc (suc y)) hx hy = absurd (omega arith)
one_bit (suc (suc x)) y hx hy = absurd (omega arith)

-- a bit of an exclusive or is set where the two bits are unlike
pub bit_at-bit_xor : (k a b : ℕ) → bit_at k (bit_xor a b) ≡ unlike (bit_at k a) (bit_at k b)
bit_at-bit_xor k a b =
    ap (λ n. eqb (n % 2) 1) (xor_shr a b k)
    ∙ ap (λ n. eqb n 1) (xor_mod (a / 2 ^ k) (b / 2 ^ k) 1)
    ∙ one_bit (a / 2 ^ k % 2) (b / 2 ^ k % 2) (mod_below (a / 2 ^ k) 2 (lit< tt)) (mod_below (b / 2 ^ k) 2 (lit< tt))

-- turning both bits, or neither, leaves them like or unlike
unlike_turned : (o a b : Bool) → unlike (unlike o a) (unlike o b) ≡ unlike a b
unlike_turned true true true = refl
unlike_turned true true false = refl
unlike_turned true false true = refl
unlike_turned true false false = refl
unlike_turned false a b = refl

unlike_pairs : (a b c d : Bool) → unlike (unlike a b) (unlike c d) ≡ unlike (unlike a c) (unlike b d)
unlike_pairs true true true d = refl
unlike_pairs true true false true = refl
unlike_pairs true true false false = refl
unlike_pairs true false true true = refl
unlike_pairs true false true false = refl
unlike_pairs true false false true = refl
unlike_pairs true false false false = refl
unlike_pairs false true true true = refl
unlike_pairs false true true false = refl
unlike_pairs false true false d = refl
unlike_pairs false false c d = refl

-- one more makes odd even and even odd
odd_more : (d : Bool) (m : ℕ) → eqb ((digit d + m) % 2) 1 ≡ unlike d (eqb (m % 2) 1)
odd_more true m = turned (m % 2) ((1 + m) % 2) (omega arith) (omega arith)
  where
    turned : (x y : ℕ) → x < 2 → x + y ≡ 1 → eqb y 1 ≡ not (eqb x 1)
    turned zero y h e = eq-eqb y 1 (omega arith)
    turned (suc zero) y h e = ne_eqb y 1 (omega arith)
    turned (suc (suc x)) y h e = absurd (omega arith)
odd_more false m = let e : (0 + m) % 2 ≡ m % 2 = omega arith in ap (λ n. eqb n 1) e

-- the planes of two lists of pels are unlike in those planes in which an odd number of pels differ
odd_unlike : (k : ℕ) (ys zs : List ℤ) → length ys ≡ length zs
    → unlike (bit_at k (planes_of ys)) (bit_at k (planes_of zs)) ≡ eqb (differing k ys zs % 2) 1
odd_unlike k [] [] e = ap₂ unlike (bit_zero k) (bit_zero k)
odd_unlike k [] (z ∷ zs) e = absurd (omega arith)
odd_unlike k (y ∷ ys) [] e = absurd (omega arith)
odd_unlike k (y ∷ ys) (z ∷ zs) e =
    let a = bit_at k (byte y) in
    let b = bit_at k (byte z) in
    ap₂ unlike (bit_at-bit_xor k (byte y) (planes_of ys)) (bit_at-bit_xor k (byte z) (planes_of zs))
    ∙ unlike_pairs a (bit_at k (planes_of ys)) b (bit_at k (planes_of zs))
    ∙ ap (unlike (unlike a b)) (odd_unlike k ys zs (omega arith))
    ∙ sym (odd_more (unlike a b) (differing k ys zs))

-- two parities name exactly the planes in which an odd number of pels differ
pub names_odd : (ys zs : List ℤ) → length ys ≡ length zs → Names (bit_xor (bit_xor 255 (planes_of ys)) (bit_xor 255 (planes_of zs))) ys zs
names_odd ys zs e k h =
    let o = bit_at k 255 in
    bit_at-bit_xor k (bit_xor 255 (planes_of ys)) (bit_xor 255 (planes_of zs))
    ∙ ap₂ unlike (bit_at-bit_xor k 255 (planes_of ys)) (bit_at-bit_xor k 255 (planes_of zs))
    ∙ unlike_turned o (bit_at k (planes_of ys)) (bit_at k (planes_of zs))
    ∙ odd_unlike k ys zs e

-- the planes of a list of pels are set in those planes that hold an odd number of ones
odd_ones : (k : ℕ) (ys : List ℤ) → bit_at k (planes_of ys) ≡ eqb (ones_in k ys % 2) 1
odd_ones k [] = bit_zero k
odd_ones k (y ∷ ys) =
    bit_at-bit_xor k (byte y) (planes_of ys) ∙ ap (unlike (bit_at k (byte y))) (odd_ones k ys) ∙ sym (odd_more (bit_at k (byte y)) (ones_in k ys))

-- all planes of 255 are set
all_planes : (k : ℕ) → k < 8 → bit_at k 255 ≡ true
all_planes zero h = refl
all_planes (suc zero) h = refl
all_planes (suc (suc zero)) h = refl
all_planes (suc (suc (suc zero))) h = refl
all_planes (suc (suc (suc (suc zero)))) h = refl
all_planes (suc (suc (suc (suc (suc zero))))) h = refl
all_planes (suc (suc (suc (suc (suc (suc zero)))))) h = refl
all_planes (suc (suc (suc (suc (suc (suc (suc zero))))))) h = refl
all_planes (suc (suc (suc (suc (suc (suc (suc (suc k)))))))) h = absurd (omega arith)

-- what is not odd is even
not_odd : (x : ℕ) → x < 2 → not (eqb x 1) ≡ eqb x 0
not_odd zero h = refl
not_odd (suc zero) h = refl
not_odd (suc (suc x)) h = absurd (omega arith)

-- the complement of the planes is the parity
pub parity_even : (ys : List ℤ) → IsParity (bit_xor 255 (planes_of ys)) ys
parity_even ys k h =
    bit_at-bit_xor k 255 (planes_of ys) ∙ ap₂ unlike (all_planes k h) (odd_ones k ys) ∙ not_odd (ones_in k ys % 2) (mod_below (ones_in k ys) 2 (lit< tt))
