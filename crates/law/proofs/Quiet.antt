-- A front of which all words are 0: a head of Q0 that neither forces nor repeats is usable with it.
use Rattle.std.proofs.Common.{◌≡◌, ℕ, zero, suc, ◌+◌, ◌-◌, ◌*◌, ◌/◌, ◌%◌, Bool, false, not, eqb, List, ◌∷◌, length, get_or, take, replicate, Ok, refl, ap, ◌∙◌, arith}
use lib.ListN.{length-replicate}
use Rattle.std.proofs.lemmas.List.{take_all}
use Rattle.format.proofs.InOrder.{both_from, in_order_from}
use Rattle.format.proofs.Packed.{bit_zero}
use Rattle.format.specs.Bits.{bit_at, digit, stream_bit, packed, field_of}
use Rattle.format.specs.Front.{front_length}
use Rattle.format.specs.Raster.{blocks, word_bytes}
use Rattle.format.specs.Record.{head_in, words_in, word_of, word_in}
use Rattle.format.specs.RecordWriting.{no_word}
use Rattle.format.specs.Usable.{front_usable, stray_word, word_test, fill_in, bad_vector, vector_test}
use Rattle.format.specs.declared.raster.Raster.{Raster}
use Rattle.format.specs.declared.refusal.Refusal.TheVariants.{StrayWord, VectorRange}
use Rattle.law.proofs.Taking.{no_refusal_if}

-- QC1 QC2 IFM FRP 1111 with Q0, IFM 1 and FRP 1
abbrev quiet_head : ℕ
quiet_head = 63

abbrev pub quiet_front : Raster → List ℕ
quiet_front r = quiet_head ∷ replicate (word_bytes r) 0

pub quiet_long : (r : Raster) → length (quiet_front r) ≡ front_length r
quiet_long r = let n : length (replicate {A = ℕ} (word_bytes r) 0) ≡ word_bytes r = length-replicate (word_bytes r) 0 in omega arith

zero_at : (n i : ℕ) → get_or {A = ℕ} (replicate n 0) i 0 ≡ 0
zero_at zero i = refl
zero_at (suc n) zero = refl
zero_at (suc n) (suc i) = zero_at n i

-- bits of zero bytes
zero_bit : (n k : ℕ) → stream_bit (replicate n 0) k ≡ false
zero_bit n k = ap (bit_at (7 - k % 8)) (zero_at n (k / 8)) ∙ bit_zero (7 - k % 8)

zero_field : (n start count : ℕ) → field_of (replicate n 0) start count ≡ 0
unfolding field_of packed
zero_field n start zero = refl
zero_field n start (suc count) =
    let here : digit (stream_bit (replicate n 0) (start + count)) ≡ 0 = ap digit (zero_bit n (start + count)) in
    let before : packed (stream_bit (replicate n 0)) start count ≡ 0 = zero_field n start count in
    omega arith

zero_word_lem : (n start : ℕ) → word_of (replicate n 0) start ≡ no_word
unfolding word_of
zero_word_lem n start = simp (zero_bit, zero_field)

module _ (r : Raster) (sbc : Bool) where
  quiet_words : words_in r (quiet_front r) ≡ replicate (word_bytes r) 0
  quiet_words =
      let n = word_bytes r in
      let whole : 1 + n - 1 ≡ n = omega arith in
      ap (λ k. take k (replicate n 0)) whole ∙ take_all n (replicate n 0) (omega (arith, length-replicate {A = ℕ} n 0))

  quiet_word : (block : ℕ) → word_in r (quiet_front r) block ≡ no_word
  unfolding word_in
  quiet_word block = ap (λ ws. word_of ws (10 * (block - 2))) quiet_words ∙ zero_word_lem (word_bytes r) (10 * (block - 2))

  quiet_fill : fill_in r (quiet_front r) ≡ 0
  quiet_fill =
      let start = 10 * blocks r in
      let count = 8 * word_bytes r - start in
      ap (λ ws. field_of ws start count) quiet_words ∙ zero_field (word_bytes r) start count

  pub quiet_usable : front_usable r sbc (quiet_front r) ≡ Ok tt
  unfolding head_in word_test vector_test
  quiet_usable =
      both_from _ _ refl
      (both_from _ _ refl
      (both_from _ _ (in_order_from (word_test r sbc (quiet_front r)) 2 (blocks r) (λ block low high. no_refusal_if _ (StrayWord block) (ap (λ x. stray_word sbc (head_in (quiet_front r)) x) (quiet_word block))))
      (both_from _ _ (no_refusal_if _ (StrayWord 0) (ap (λ x. not (eqb x 0)) quiet_fill))
      (in_order_from (vector_test r (quiet_front r)) 2 (blocks r) (λ block low high. no_refusal_if _ (VectorRange block) (ap bad_vector (quiet_word block)))))))
