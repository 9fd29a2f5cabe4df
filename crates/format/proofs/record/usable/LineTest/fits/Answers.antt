use Rattle.std.proofs.Common.{sym}
use Rattle.format.specs.RecordOver.{bytes_of}
use Rattle.format.proofs.Sizes.{line_passes}
use Rattle.format.proofs.record.usable.LineTest.fits.Goals as goal

pub returns-then-all_within : goal.returns-then-all_within
returns-then-all_within c =
    sym (line_passes c.args.self.now.record.raster c.args.self.now.sbc c.args.self.now.top (bytes_of c.args.self.now.record) c.args.self.now.line
    c.line.result.now c.args.largest.now c.line.ensures.value c.requires c.line.ensures.len
    (c.all_within.ensures.so c.if-all_within.true))
