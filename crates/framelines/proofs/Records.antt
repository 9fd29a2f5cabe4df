-- Records taken one after another.
use Rattle.std.proofs.Common.{◌≡◌, ℕ, suc, ◌+◌, ◌-◌, ◌*◌, ◌<◌, ◌≤◌, List, ℤ, Ok, Result, sym, ap, ◌∙◌, arith}
use Rattle.format.specs.Raster.{record_length}
use Rattle.format.specs.declared.raster.Raster.{Raster}
use Rattle.format.specs.declared.refusal.Refusal.{Refusal}
use Rattle.quantizer.specs.declared.characteristic.Characteristic.{Characteristic}
use Rattle.codec.specs.Decoder.{Frame, block_line, block_lines}
use Rattle.codec.specs.Signal.{Signal}
use Rattle.codec.specs.declared.end.Refused.{Refused}
use Rattle.framelines.specs.Frames.{piece, records, goes_on}

abbrev Answer : Type 0
Answer = Result Frame (Refused Frame) × Signal

module _ (tops : Characteristic → ℕ) (values : Characteristic → ℤ → ℤ) (bytes : List ℕ) (length : ℕ) where
  -- a turn: what the next record answers decides
  pub records_turn : (start n i : ℕ) (f : Frame) (s : Signal) (p : List ℕ) (answer : Answer) → i < n → p ≡ piece bytes start length → answer ≡ block_line tops values f p s
      → goes_on (records tops values bytes length (start + length) (n - (i + 1))) answer ≡ records tops values bytes length start (n - i) f s
  unfolding records
  records_turn start n i f s p answer h ep ea =
      let left : n - i ≡ suc (n - (i + 1)) = omega arith in
      ap (goes_on (records tops values bytes length (start + length) (n - (i + 1)))) (ea ∙ ap (λ z. block_line tops values f z s) ep)
      ∙ sym (ap (λ z. records tops values bytes length start z f s) left)

  pub records_done : (start n i : ℕ) (f : Frame) (s : Signal) → n ≤ i → (Ok f, s) ≡ records tops values bytes length start (n - i) f s
  unfolding records
  records_done start n i f s h = let none : n - i ≡ 0 = omega arith in sym (ap (λ z. records tops values bytes length start z f s) none)

  -- the records that are left before the record i of n
  abbrev pub records_from : ℕ → ℕ → Frame → Signal → Result Frame Refusal × Signal
  records_from n i = records tops values bytes length (5 + i * length) (n - i)

  -- and so where the records begin behind a header
  pub records_from_turn : (n i : ℕ) (f : Frame) (s : Signal) (p : List ℕ) (answer : Answer) → i < n → p ≡ piece bytes (5 + i * length) length
      → answer ≡ block_line tops values f p s → goes_on (records_from n (i + 1)) answer ≡ records_from n i f s
  records_from_turn n i f s p answer h ep ea =
      let next : 5 + (i + 1) * length ≡ 5 + i * length + length = omega arith in
      ap (λ (k : ℕ). goes_on (records tops values bytes length k (n - (i + 1))) answer) next ∙ records_turn (5 + i * length) n i f s p answer h ep ea

  pub records_from_done : (n i : ℕ) (f : Frame) (s : Signal) → n ≤ i → (Ok f, s) ≡ records_from n i f s
  records_from_done n i f s h = records_done (5 + i * length) n i f s h

  pub records_begun : (r : Raster) (k : ℕ) (f : Frame) (s : Signal) → length ≡ record_length r → k ≡ block_lines r
      → records_from k 0 f s ≡ records tops values bytes (record_length r) 5 (block_lines r) f s
  records_begun r k f s el ek =
      let first : 5 + 0 * length ≡ 5 = omega arith in
      let all : k - 0 ≡ k = omega arith in
      rw (first, all, el, ek)
