use Rattle.std.proofs.Common.{ap, ◌∙◌, rules}
use Rattle.format.specs.RecordOver.{front_bytes}
use Rattle.format.specs.Usable.{in_order, vector_test}
use Rattle.format.proofs.front.Front.vectors_fit.Goals as goal

pub returns : goal.returns
unfolding vector_test
returns c =
    let test = vector_test c.args.self.now.raster (front_bytes c.args.self.now) in
    c.in_order.ensures test (λ block verdict low high answer. search rules) ∙ ap (in_order test 2) c.blocks-2.ensures.value
