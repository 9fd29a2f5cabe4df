use Rattle.std.proofs.Common.{◌-◌, ◌≤◌, arith, rules}
use Rattle.std.proofs.lemmas.Nat.{mul-le}
use Rattle.format.proofs.RasterLaws.{record_length_is}
use Rattle.format.proofs.record.Record.line.Goals as goal

pub slice_bounds-result-end : goal.slice_bounds-result-end
slice_bounds-result-end c =
    let n = c.line_levels-count.result in
    let long = record_length_is c.args.self.now.raster in
    let before : c.args.line - 1 ≤ 7 = search rules in
    let rows = mul-le (c.args.line - 1) n 7 n before (omega arith) in
    omega arith
