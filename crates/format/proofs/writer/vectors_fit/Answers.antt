use Rattle.std.proofs.Common.{rules}
use Rattle.format.specs.RecordWriting.{range_test}
use Rattle.format.proofs.writer.vectors_fit.Goals as goal

pub returns : goal.returns
unfolding range_test
returns c = c.in_order.ensures (range_test c.args.words.now) (λ block verdict low high answer. search rules)
