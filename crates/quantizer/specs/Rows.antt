-- The rules of the table, by one test of a row that the checker computes: each size of error, and each step.
use Rattle.std.specs.Prelude.{◌≡◌, ℕ, zero, suc, ◌+◌, ◌<◌, ◌≤◌, Bool, true, cond, ◌&&◌, List, ◌==◌, nat_le, nat_lt, refl}
use Rattle.std.proofs.Common.{arith}
use Rattle.std.proofs.lemmas.Bool.{ltb-true, and_parts}
use Rattle.std.proofs.lemmas.Bool.Decides.{Decides-below_and, nat_tests}
use Rattle.quantizer.specs.Lawful.{Lawful, largest_error, near_limit, far_least, overshoot_most}
use Rattle.quantizer.specs.Table.{row_of, top_of, shortfall_of, step_of, output_of, number_of, value_of}
use Rattle.quantizer.specs.declared.characteristic.Characteristic.{Characteristic}
use Rattle.quantizer.specs.declared.characteristic.Characteristic.TheVariants.{Q0, Q1, Q2, Q3}
use Rattle.quantizer.specs.declared.table.Step.{Step}
use Rattle.quantizer.specs.Magnitudes.{Sized, lawful}

-- a test passes at each number below n
abbrev pub below : (ℕ → Bool) → ℕ → Bool
below p zero = true
below p (suc n) = p n && below p n

pub at_below : (p : ℕ → Bool) (n : ℕ) → below p n ≡ true → (k : ℕ) → k < n → p k ≡ true
at_below p n t = (Decides-below_and p (λ k. p k ≡ true) (below p) (λ k. (λ e. e, λ e. e)) refl (λ _. refl) n).0 t

-- the top, the shortfall, the step and the output at 0, and the output at the top
abbrev bounded : ℕ → ℕ → ℕ → ℕ → ℕ → Bool
bounded top shortfall step-0 output-0 output-top =
    (nat_le 1 top && nat_le top 127) && (nat_le 3 shortfall && nat_le shortfall 6) && (step-0 == 0 && output-0 == 0)
    && (nat_le far_least output-top && nat_le output-top 127)

-- an error of size m, its step and its output: the step is in range, and the output is near enough
abbrev near : ℕ → ℕ → ℕ → ℕ → ℕ → Bool
near top shortfall m step output =
    nat_le step top && nat_le output (m + overshoot_most) && cond (nat_le m near_limit) (nat_le m (output + shortfall)) (nat_le far_least output)

module _ (top shortfall a b c : ℕ) where
  bounds : bounded top shortfall a b c ≡ true →
      (1 ≤ top) × (top ≤ 127) × (3 ≤ shortfall) × (shortfall ≤ 6) × (a ≡ 0) × (b ≡ 0) × (far_least ≤ c) × (c ≤ 127)
  bounds t = grind (arith, nat_tests)

  nears : near top shortfall a b c ≡ true →
      (b ≤ top) × (c ≤ a + overshoot_most) × (a ≤ near_limit → a ≤ c + shortfall) × (near_limit < a → far_least ≤ c)
  nears t = grind (arith, nat_tests)

-- the step after k has a larger output
abbrev climbs : List Step → ℕ → Bool
climbs row k = nat_lt (output_of row k) (output_of row (suc k))

abbrev answers : ℕ → ℕ → List Step → ℕ → Bool
answers top shortfall row m = near top shortfall m (step_of row m) (output_of row (step_of row m))

-- the test of a row: its bounds, each step, and each size of error
abbrev passes : ℕ → ℕ → List Step → Bool
passes top shortfall row =
    bounded top shortfall (step_of row 0) (output_of row 0) (output_of row top)
    && (below (climbs row) top && below (answers top shortfall row) (suc largest_error))

table_passes : (q : Characteristic) → passes (top_of q) (shortfall_of q) (row_of q) ≡ true
table_passes Q0 = refl
table_passes Q1 = refl
table_passes Q2 = refl
table_passes Q3 = refl

-- a row that passes keeps the rules, of sizes
row_sized : (top shortfall : ℕ) (row : List Step) → passes top shortfall row ≡ true → Sized top shortfall (step_of row) (output_of row)
row_sized top shortfall row t =
    let parts = and_parts _ _ t in
    let more = and_parts _ _ parts.1 in
    let b = bounds top shortfall _ _ _ parts.0 in
    let at = λ (m : ℕ) (h : m < suc largest_error). nears top shortfall m _ _ (at_below (answers top shortfall row) (suc largest_error) more.1 m h) in
    record {
      top_least = b.0;
      top_most = b.1;
      shortfall_least = b.2;
      shortfall_most = b.3;
      zero_step = b.4;
      zero_output = b.5;
      rises = λ k h. ltb-true _ _ (at_below (climbs row) top more.0 k h);
      top_value_least = b.6;
      top_value_most = b.7;
      step_in_range = λ m h. (at m (omega arith)).0;
      overshoot = λ m h. (at m (omega arith)).1;
      shortfall_kept = λ m h. (at m (omega arith)).2 h;
      far = λ m g h. (at m (omega arith)).3 g;
    }

pub table_sized : (q : Characteristic) → Sized (top_of q) (shortfall_of q) (step_of (row_of q)) (output_of (row_of q))
table_sized q = row_sized (top_of q) (shortfall_of q) (row_of q) (table_passes q)

-- each characteristic of the table keeps the rules
pub table_lawful : (q : Characteristic) → Lawful (top_of q) (shortfall_of q) (number_of q) (value_of q)
table_lawful q = lawful (top_of q) (shortfall_of q) (step_of (row_of q)) (output_of (row_of q)) (table_sized q)
