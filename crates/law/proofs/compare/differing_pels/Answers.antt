use Rattle.std.proofs.Common.{cond, sym, ◌∙◌, rules, tests, arith}
use Rattle.std.specs.List.{range_with_len}
use Rattle.std.proofs.lemmas.Iterator.{YieldsList-from_range, YieldsList-from_map}
use Rattle.std.proofs.lemmas.Iterator.Adapters.{at_most_from_yields_List, fits_from_length}
use Rattle.std.proofs.lemmas.Iterator.Consumers.{sum_by_from_yields_List}
use Rattle.std.proofs.lemmas.List.FromFn.{length-range_with_len}
use Rattle.std.proofs.lemmas.List.Sums.{length-filter}
use Rattle.law.proofs.Differing.{differ_after, counted_as}
use Rattle.law.proofs.compare.differing_pels.Goals as goal

pub sum-requires-clause-fits : goal.sum-requires-clause-fits
sum-requires-clause-fits g c =
    let n = c.args.count in
    fits_from_length _ _ 18446744073709551615 _
    (at_most_from_yields_List (YieldsList-from_range 0 n n c.map.ensures.source (omega arith)) (omega (arith, length-range_with_len 0 n)))
    c.map.ensures.closure (omega arith) (λ x r q k. search (rules, tests))

pub returns : goal.returns
returns g c =
    let n = c.args.count in
    let xs = g.M.DelayMemory.held c.args.a.now in
    let ys = g.N.DelayMemory.held c.args.b.now in
    let test = differ_after xs ys in
    sum_by_from_yields_List _ _ c.map.result _ c.sum.ensures.ran
    (YieldsList-from_map _ (λ k. cond (test k) 1 0) (YieldsList-from_range 0 n n c.map.ensures.source (omega arith))
    c.map.ensures.closure (λ x r q k. search (rules, tests)))
    ∙ sym (length-filter test (range_with_len 0 n)) ∙ counted_as xs ys n
