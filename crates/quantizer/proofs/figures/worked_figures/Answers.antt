use Rattle.std.proofs.Common.{◌≡◌, ℕ, suc, Bool, true, ◌&&◌, leb, ltb, List, refl, arith}
use Rattle.std.proofs.lemmas.Bool.{leb-true, ltb-true, and_parts}
use Rattle.quantizer.specs.Figures.{end_of}
use Rattle.quantizer.specs.Lawful.{largest_error}
use Rattle.quantizer.specs.Rows.{below, at_below}
use Rattle.quantizer.specs.Table.{row_of, step_of}
use Rattle.quantizer.specs.declared.characteristic.Characteristic.{Characteristic}
use Rattle.quantizer.specs.declared.characteristic.Characteristic.TheVariants.{Q0, Q1, Q2, Q3}
use Rattle.quantizer.specs.declared.table.Step.{Step}
use Rattle.quantizer.proofs.figures.worked_figures.Goals as goal

-- the size m is at most the end of its step k, and above the earlier ends
abbrev ranges : List Step → ℕ → Bool
ranges row m = leb m (end_of row (step_of row m)) && below (λ j. ltb (end_of row j) m) (step_of row m)

table_ranges : (q : Characteristic) → below (ranges (row_of q)) (suc largest_error) ≡ true
table_ranges Q0 = refl
table_ranges Q1 = refl
table_ranges Q2 = refl
table_ranges Q3 = refl

pub returns-clause-ranged : goal.returns-clause-ranged
returns-clause-ranged c q m h =
    let row = row_of q in
    let t = and_parts _ _ (at_below (ranges row) (suc largest_error) (table_ranges q) m (omega arith)) in
    record {
      up_to_end = leb-true _ _ t.0;
      past_earlier = λ j l. ltb-true _ _ (at_below (λ j. ltb (end_of row j) m) (step_of row m) t.1 j l);
    }
