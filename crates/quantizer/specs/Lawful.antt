-- The rules that each quantizing characteristic keeps, and when an error or a number has an answer.
-- A characteristic is a top number, a shortfall, the level number of an error and the value of a level number.
use Rattle.std.specs.Prelude.{◌≡◌, ℕ, zero, suc, ◌+◌, ◌<◌, ◌≤◌, cond, ℤ, pos, negsuc, neg_ℤ, ◌≤ℤ◌, ◌<ℤ◌, Some, None, Option, nat_le, unsigned_abs}

-- errors run from -255 to 255
abbrev pub largest_error : ℕ
largest_error = 255

-- what f answers from -limit to limit, and nothing outside
abbrev pub within : ℕ → (ℤ → ℤ) → ℤ → Option ℤ
within limit f z = cond (nat_le (unsigned_abs z) limit) (Some (f z)) None

-- the value v is 0, or it has the sign of the error e
abbrev pub KeepsSign : ℤ → ℤ → Type 0
KeepsSign e (pos zero) = Unit {0}
KeepsSign e (pos (suc v)) = pos 0 <ℤ e
KeepsSign e (negsuc v) = e <ℤ pos 0

-- up to this size of error, a value falls short of the error by at most the shortfall
abbrev pub near_limit : ℕ
near_limit = 130

-- beyond it, a value is at least this large; so is the top value
abbrev pub far_least : ℕ
far_least = 124

-- a value may exceed the error by this much
abbrev pub overshoot_most : ℕ
overshoot_most = 3

pub record Lawful (top shortfall : ℕ) (number value : ℤ → ℤ) : Type 0 where
  pub top_least : 1 ≤ top
  pub top_most : top ≤ 127
  pub shortfall_least : 3 ≤ shortfall
  pub shortfall_most : shortfall ≤ 6
  -- opposite numbers have opposite values, and a larger number has a larger value
  pub opposite : (n : ℤ) → unsigned_abs n ≤ top → value (neg_ℤ n) ≡ neg_ℤ (value n)
  pub larger : (m n : ℤ) → unsigned_abs m ≤ top → unsigned_abs n ≤ top → m <ℤ n → value m <ℤ value n
  -- the value of the top number
  pub top_value_least : pos far_least ≤ℤ value (pos top)
  pub top_value_most : value (pos top) ≤ℤ pos 127
  -- the number of an error, and the value that then stands for the error
  pub number_in_range : (e : ℤ) → unsigned_abs e ≤ largest_error → unsigned_abs (number e) ≤ top
  pub sign : (e : ℤ) → unsigned_abs e ≤ largest_error → KeepsSign e (value (number e))
  pub overshoot : (e : ℤ) → unsigned_abs e ≤ largest_error → unsigned_abs (value (number e)) ≤ unsigned_abs e + overshoot_most
  pub shortfall_kept : (e : ℤ) → unsigned_abs e ≤ near_limit → unsigned_abs e ≤ unsigned_abs (value (number e)) + shortfall
  pub far : (e : ℤ) → near_limit < unsigned_abs e → unsigned_abs e ≤ largest_error → far_least ≤ unsigned_abs (value (number e))
