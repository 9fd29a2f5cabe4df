use Rattle.std.proofs.Common.{reverse, ap}
use Rattle.delay.specs.Woven.{most_rows}
use Rattle.delay.proofs.Weaving.{woven_shortest}
use Rattle.delay.proofs.banks.Banks.open.Goals as goal

pub returns : goal.returns
returns c =
    ap reverse (woven_shortest c.min-rows.result most_rows c.args.first.now c.args.second.now c.args.third.now c.args.fourth.now (cc))
