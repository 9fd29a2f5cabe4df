use Rattle.std.proofs.Common.{arith}
use Rattle.format.proofs.RasterLaws.{width_most}
use Rattle.codec.proofs.modes.BlockLine.work_numbered.Goals as goal

pub work_line-requires-clause-short : goal.work_line-requires-clause-short
work_line-requires-clause-short g c = omega (arith, c.in-Some.ensures.4, width_most c.args.reader.raster)

pub returns-in-Some-clause-few : goal.returns-in-Some-clause-few
returns-in-Some-clause-few g c = omega (arith, c.in-Some.ensures.4, width_most c.args.reader.raster, c.work_line.ensures.few)
