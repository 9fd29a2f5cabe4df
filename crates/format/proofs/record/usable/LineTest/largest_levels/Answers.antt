use Rattle.std.proofs.Common.{◌≡◌, length, refl, ◌∙◌, arith}
use Rattle.std.proofs.lemmas.List.{get_or_append_left, length-take-le}
use Rattle.format.specs.Usable.{thinned}
use Rattle.format.proofs.record.usable.LineTest.largest_levels.Goals as goal

pub loop-i-init : goal.loop-i-init
unfolding thinned
loop-i-init c = (refl, λ k h. absurd (omega arith))

pub returns : goal.returns
returns c =
    let long : length c.loop-i.size-items ≡ c.line_levels-count.result = c.loop-i.auto.size-items ∙ length-take-le c.line_levels-count.result _ (omega arith) in
    λ i h. get_or_append_left c.loop-i.size-items _ 0 i (omega arith) ∙ c.loop-i.invariant.1 i (omega arith)
