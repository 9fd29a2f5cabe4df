use Rattle.std.proofs.Common.{◌+◌, ◌-◌, sym, ap, ◌∙◌}
use Rattle.codec.specs.Line.{resets}
use Rattle.codec.proofs.Lines.{resets_more}
use Rattle.codec.proofs.line.enter_resets.Goals as goal

pub loop-preserved : goal.loop-preserved
loop-preserved g c =
    ap (resets (c.args.count - (c.loop.counter + 1))) c.enter_reset.ensures
    ∙ sym (resets_more c.args.count c.loop.counter _ c.loop-test.true)
    ∙ c.loop.invariant
