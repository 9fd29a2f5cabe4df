-- What the tests before a write say once they have passed.
use Rattle.std.proofs.Common.{◌≡◌, ℕ, ◌+◌, ◌<◌, ◌≤◌, Bool, not, List, length, Ok, sym, refl, ap, ◌∙◌, ⊎_elim, arith}
use Rattle.std.proofs.lemmas.List.{get_or_past}
use Rattle.std.proofs.lemmas.Bool.{not-false, eqb-true, eq-eqb, cases_lt}
use Rattle.format.specs.RecordWriting.{no_word, in_range, Ranged, count_test, range_test}
use Rattle.format.specs.Usable.{refuse_if, in_order}
use Rattle.format.specs.declared.refusal.Refusal.TheVariants.{WrongLength, VectorRange}
use Rattle.format.specs.declared.words.BlockWord.{BlockWord}
use Rattle.format.proofs.InOrder.{in_order_all}
use Rattle.format.proofs.SoundLaws.{no_fault}
use Rattle.format.proofs.Verdicts.{range_verdict}

pub count_passed : (count given : ℕ) → count_test count given ≡ Ok tt → given ≡ count
count_passed count given h = eqb-true given count (not-false _ (no_fault _ (WrongLength given) h))

pub count_passes : (count given : ℕ) → given ≡ count → count_test count given ≡ Ok tt
count_passes count given e = ap (λ (b : Bool). refuse_if (not b) (WrongLength given)) (eq-eqb given count e)

pub ranged_passed : (words : List BlockWord) → in_order (range_test words) 2 (length words) ≡ Ok tt → Ranged words
ranged_passed words h i =
    ⊎_elim
    (λ (within : i < length words).
    let pass = in_order_all (range_test words) 2 (length words) h (2 + i) (omega arith) (omega arith) in
    not-false _ (no_fault _ (VectorRange (2 + i)) (sym (range_verdict words i _ refl) ∙ pass)))
    (λ (past : length words ≤ i). ap in_range (get_or_past words i no_word past))
    (cases_lt i (length words))
