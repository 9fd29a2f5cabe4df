-- A field of a stream lies in two bytes: it is read from them by one shift.
use Rattle.std.proofs.Common.{◌≡◌, ℕ, zero, suc, ◌+◌, ◌-◌, ◌*◌, ◌/◌, ◌%◌, ◌^◌, ◌<◌, ◌≤◌, List, get_or, sym, ap, ◌∙◌, ⊎_elim, arith, shr-shr}
use native.Mathlib.Nat.{mod-one}
use lib.Pow.{high, low, mod-pow-add, field, mod-mod-pow}
use Rattle.std.proofs.lemmas.Bool.{cases_lt}
use Rattle.std.proofs.lemmas.Nat.{mod_below}
use Rattle.format.specs.Bits.{stream_bit, digit, packed, field_of}
use Rattle.format.proofs.Packed.{digit_of}

-- bit m of two bytes, from the most significant on, is one of the first byte or one of the second
first_byte : (hi lo m : ℕ) → lo < 256 → m < 8 → (hi * 2 ^ 8 + lo) / 2 ^ (15 - m) ≡ hi / 2 ^ (7 - m)
first_byte hi lo m l h =
    let e : 15 - m ≡ 8 + (7 - m) = omega arith in
    ap (λ (k : ℕ). (hi * 2 ^ 8 + lo) / 2 ^ k) e ∙ sym (shr-shr (hi * 2 ^ 8 + lo) 8 (7 - m))
    ∙ ap (λ (n : ℕ). n / 2 ^ (7 - m)) (high hi 8 l)

second_byte : (hi lo k : ℕ) → lo < 256 → k < 8 → (hi * 2 ^ 8 + lo) / 2 ^ k % 2 ≡ lo / 2 ^ k % 2
second_byte hi lo k l h =
    let pair = hi * 2 ^ 8 + lo in
    let e : 7 - k + (1 + k) ≡ 8 = omega arith in
    let same : pair % 2 ^ (1 + k) ≡ lo % 2 ^ (1 + k) =
    sym (mod-mod-pow pair (7 - k) (1 + k)) ∙ ap (λ (j : ℕ). pair % 2 ^ j % 2 ^ (1 + k)) e
    ∙ ap (λ (n : ℕ). n % 2 ^ (1 + k)) (low hi 8 l) in
    sym (field pair 1 k) ∙ ap (λ (n : ℕ). n / 2 ^ k) same ∙ field lo 1 k

abbrev pub pair_at : List ℕ → ℕ → ℕ
pair_at bytes q = get_or bytes q 0 * 2 ^ 8 + get_or bytes (q + 1) 0

-- bit m of the stream from byte q on
pair_bit : (bytes : List ℕ) (q m : ℕ) → get_or bytes (q + 1) 0 < 256 → m < 16
    → digit (stream_bit bytes (8 * q + m)) ≡ pair_at bytes q / 2 ^ (15 - m) % 2
pair_bit bytes q m l h =
    let hi = get_or bytes q 0 in
    let lo = get_or bytes (q + 1) 0 in
    ⊎_elim
    (λ (in-first : m < 8).
    let d : (8 * q + m) / 8 ≡ q = omega arith in
    let r : 7 - (8 * q + m) % 8 ≡ 7 - m = omega arith in
    digit_of _ (mod_below _ 2 (omega arith))
    ∙ ap (λ (k : ℕ). get_or bytes k 0 / 2 ^ (7 - (8 * q + m) % 8) % 2) d ∙ ap (λ (k : ℕ). hi / 2 ^ k % 2) r
    ∙ sym (ap (λ (n : ℕ). n % 2) (first_byte hi lo m l in-first)))
    (λ (in-second : 8 ≤ m).
    let d : (8 * q + m) / 8 ≡ q + 1 = omega arith in
    let r : 7 - (8 * q + m) % 8 ≡ 15 - m = omega arith in
    digit_of _ (mod_below _ 2 (omega arith))
    ∙ ap (λ (k : ℕ). get_or bytes k 0 / 2 ^ (7 - (8 * q + m) % 8) % 2) d ∙ ap (λ (k : ℕ). lo / 2 ^ k % 2) r
    ∙ sym (second_byte hi lo (15 - m) l (omega arith)))
    (cases_lt m 8)

-- the field of n bits that begins at bit o of byte q
pub window : (bytes : List ℕ) (q o n : ℕ) → get_or bytes (q + 1) 0 < 256 → o + n ≤ 16
    → field_of bytes (8 * q + o) n ≡ pair_at bytes q / 2 ^ (16 - o - n) % 2 ^ n
unfolding packed field_of
window bytes q o zero l h = sym (mod-one _)
window bytes q o (suc n) l h =
    let pair = pair_at bytes q in
    let e = 16 - o - suc n in
    let shift : 16 - o - n ≡ e + 1 = omega arith in
    let last : 15 - (o + n) ≡ e = omega arith in
    let place : 8 * q + o + n ≡ 8 * q + (o + n) = omega arith in
    let one : n + 1 ≡ suc n = omega arith in
    let before = window bytes q o n l (omega arith) ∙ ap (λ (k : ℕ). pair / 2 ^ k % 2 ^ n) shift
    ∙ ap (λ (x : ℕ). x % 2 ^ n) (sym (shr-shr pair e 1)) in
    let bit = ap (λ (k : ℕ). digit (stream_bit bytes k)) place ∙ pair_bit bytes q (o + n) l (omega arith)
    ∙ ap (λ (k : ℕ). pair / 2 ^ k % 2) last in
    let whole = mod-pow-add (pair / 2 ^ e) n 1 in
    let width = ap (λ (k : ℕ). pair / 2 ^ e % 2 ^ k) one in
    omega arith
