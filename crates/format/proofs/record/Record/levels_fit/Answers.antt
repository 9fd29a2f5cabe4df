use Rattle.std.proofs.Common.{rules}
use Rattle.format.specs.RecordOver.{bytes_of}
use Rattle.format.specs.Usable.{line_test}
use Rattle.format.proofs.record.Record.levels_fit.Goals as goal

pub returns : goal.returns
returns c =
    c.in_order.ensures (line_test c.args.self.now.raster c.args.sbc c.args.top (bytes_of c.args.self.now)) (λ line verdict low high answer. search rules)
