use Rattle.std.proofs.Common.{ap, ◌∙◌, rules}
use Rattle.format.specs.RecordOver.{front_bytes}
use Rattle.format.specs.Usable.{in_order, word_test}
use Rattle.format.proofs.front.Front.words_fit.Goals as goal

pub returns : goal.returns
unfolding word_test
returns c =
    let test = word_test c.args.self.now.raster c.args.sbc (front_bytes c.args.self.now) in
    c.in_order.ensures test (λ block verdict low high answer. search rules) ∙ ap (in_order test 2) c.blocks-2.ensures.value
