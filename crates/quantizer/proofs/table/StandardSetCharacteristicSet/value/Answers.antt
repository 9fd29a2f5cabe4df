use Rattle.std.proofs.Common.{◌≡◌, ℕ, ◌<◌, ◌≤◌, Bool, true, leb, List, length, get_or, refl, sym, ap, ◌∙◌, subst}
use Rattle.std.specs.List.{AllPass, list_all}
use Rattle.std.proofs.lemmas.Bool.{leb-true}
use Rattle.std.proofs.lemmas.List.Sums.{AllPass-from_list_all}
use Rattle.quantizer.specs.Table.{row_of}
use Rattle.quantizer.specs.declared.characteristic.Characteristic.{Characteristic}
use Rattle.quantizer.specs.declared.characteristic.Characteristic.TheVariants.{Q0, Q1, Q2, Q3}
use Rattle.quantizer.specs.declared.table.Step.{Step}
use Rattle.quantizer.proofs.table.StandardSetCharacteristicSet.value.Goals as goal

abbrev fits : Step → Bool
fits s = leb s.1 127

outputs_fit : (q : Characteristic) → list_all fits (row_of q) ≡ true
outputs_fit Q0 = refl
outputs_fit Q1 = refl
outputs_fit Q2 = refl
outputs_fit Q3 = refl

-- an output of the table fits eight bits with a sign
entry_fits : (q : Characteristic) (row : List Step) (k : ℕ) (s : Step) → row ≡ row_of q → s ≡ get_or row k s → k < length row → s.1 ≤ 127
entry_fits q row k s same found inside =
    let all : AllPass fits row = subst (AllPass fits) (sym same) (AllPass-from_list_all fits (row_of q) (outputs_fit q)) in
    leb-true s.1 127 (ap fits found ∙ all k s inside)

pub with_sign-requires : goal.with_sign-requires
with_sign-requires c =
    let found = c.in_ok-output.ensures.lookup in
    entry_fits c.args.q _ _ _ c.row.ensures found.1 found.3.0
