-- What follows from the rules, for code that quantizes by a set.
use Rattle.std.proofs.Common.{◌≡◌, ℕ, zero, suc, ◌<◌, ◌≤◌, ℤ, pos, negsuc, neg_ℤ, nat_abs, ◌≤ℤ◌, Some, None, Option, sym, ap, ◌∙◌, subst, inl, inr, arith}
use Rattle.std.proofs.lemmas.Int.{ints}
use Rattle.std.proofs.lemmas.Bool.{le-leb, lt-leb, cases_lt, cond-true, cond-false}
use Rattle.quantizer.specs.Lawful.{Lawful, KeepsSign, within, largest_error}
use Rattle.quantizer.specs.Magnitudes.{size_negℤ, rising}
use Rattle.quantizer.specs.Rows.{table_sized}
use Rattle.quantizer.specs.Table.{row_of, top_of, step_of, output_of}
use Rattle.quantizer.specs.declared.characteristic.Characteristic.{Characteristic}

-- inside the limit there is an answer, and outside there is none
pub within_some : (limit : ℕ) (f : ℤ → ℤ) (z : ℤ) → nat_abs z ≤ limit → within limit f z ≡ Some (f z)
within_some limit f z h = cond-true _ _ _ (le-leb _ _ h)

pub within_none : (limit : ℕ) (f : ℤ → ℤ) (z : ℤ) → limit < nat_abs z → within limit f z ≡ None
within_none limit f z h = cond-false _ _ _ (lt-leb _ _ h)

-- an answer says that it was inside the limit, and which it is
pub within_tells : (limit : ℕ) (f : ℤ → ℤ) (z n : ℤ) → Some n ≡ within limit f z → (nat_abs z ≤ limit) × (n ≡ f z)
within_tells limit f z n e =
    elim (cases_lt limit (nat_abs z)) [
      | inl out ↦ let none = within_none limit f z out in let never : ◌≡◌ {A = ℕ} 0 1 = cc in absurd (omega arith)
      | inr in' ↦ let some = within_some limit f z in' in (in', cc)
    ]

-- a value that keeps the sign of an error from 0 up is from 0 up, and so downward
pub keeps_up : (e v : ℤ) → KeepsSign e v → pos 0 ≤ℤ e → pos 0 ≤ℤ v
keeps_up e (pos v) k h = omega (arith, ints)
keeps_up e (negsuc v) k h = absurd (omega (arith, ints))

pub keeps_down : (e v : ℤ) → KeepsSign e v → e ≤ℤ pos 0 → v ≤ℤ pos 0
keeps_down e (pos zero) k h = omega (arith, ints)
keeps_down e (pos (suc v)) k h = absurd (omega (arith, ints))
keeps_down e (negsuc v) k h = omega (arith, ints)

size_under : (n : ℕ) (z : ℤ) → z ≤ℤ pos n → neg_ℤ z ≤ℤ pos n → nat_abs z ≤ n
size_under n (pos a) u d = omega (arith, ints)
size_under n (negsuc a) u d = omega (arith, ints)

module _ {top shortfall : ℕ} {number value : ℤ → ℤ} (law : Lawful top shortfall number value) where
  -- no value exceeds 127
  value_under : (n : ℤ) → nat_abs n ≤ top → value n ≤ℤ pos 127
  value_under (pos n) h =
      elim (cases_lt n top) [
        | inl l ↦ omega (arith, ints, law.larger (pos n) (pos top) h (omega arith) (omega (arith, ints)), law.top_value_most)
        | inr g ↦ let e : top ≡ n = omega arith in subst (λ k. value (pos k) ≤ℤ pos 127) e law.top_value_most
      ]
  value_under (negsuc n) h =
      omega (arith, ints, law.larger (negsuc n) (pos top) h (omega arith) (omega (arith, ints)), law.top_value_most)

  -- a value is from -127 to 127
  pub value_fits : (n : ℤ) → nat_abs n ≤ top → nat_abs (value n) ≤ 127
  value_fits n h =
      size_under 127 (value n) (value_under n h)
      (subst (λ v. v ≤ℤ pos 127) (law.opposite n h) (value_under (neg_ℤ n) (omega (arith, size_negℤ n))))

  -- the number 0 has the value 0
  pub value_zero : value (pos 0) ≡ pos 0
  value_zero = let e : value (pos 0) ≡ neg_ℤ (value (pos 0)) = law.opposite (pos 0) (omega arith) in omega (arith, ints)

  -- the number of an error has a value, which fits
  pub number_has_value : (e : ℤ) → nat_abs e ≤ largest_error → within top value (number e) ≡ Some (value (number e))
  number_has_value e h = within_some top value (number e) (law.number_in_range e h)

  pub error_value_fits : (e : ℤ) → nat_abs e ≤ largest_error → nat_abs (value (number e)) ≤ 127
  error_value_fits e h = value_fits (number e) (law.number_in_range e h)

  -- the value of an error from 0 up is from 0 up, and so downward
  pub error_value_up : (e : ℤ) → nat_abs e ≤ largest_error → pos 0 ≤ℤ e → pos 0 ≤ℤ value (number e)
  error_value_up e h = keeps_up e (value (number e)) (law.sign e h)

  pub error_value_down : (e : ℤ) → nat_abs e ≤ largest_error → e ≤ℤ pos 0 → value (number e) ≤ℤ pos 0
  error_value_down e h = keeps_down e (value (number e)) (law.sign e h)

  -- the value of the number of an error
  pub quantized_is : (e n : ℤ) (r : Option ℤ) → Some n ≡ within largest_error number e → r ≡ within top value n → r ≡ within largest_error (λ x. value (number x)) e
  quantized_is e n r some given =
      let t = within_tells largest_error number e n some in
      let has = number_has_value e t.0 in
      let all = within_some largest_error (λ x. value (number x)) e t.0 in
      given ∙ ap (within top value) t.1 ∙ has ∙ sym all

-- a number and a value of the table fit eight bits
pub step_fits : (q : Characteristic) (m : ℕ) → m ≤ largest_error → step_of (row_of q) m ≤ 127
step_fits q m h = omega (arith, (table_sized q).step_in_range m h, (table_sized q).top_most)

pub output_fits : (q : Characteristic) (k : ℕ) → k ≤ top_of q → output_of (row_of q) k ≤ 127
output_fits q k h =
    let s = table_sized q in
    elim (cases_lt k (top_of q)) [
      | inl l ↦ omega (arith, rising (output_of (row_of q)) (top_of q) s.rises k (top_of q) l (omega arith), s.top_value_most)
      | inr g ↦ let e : k ≡ top_of q = omega arith in subst (λ n. output_of (row_of q) n ≤ 127) (sym e) s.top_value_most
    ]
