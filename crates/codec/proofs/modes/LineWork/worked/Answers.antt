use Rattle.std.proofs.Common.{to_z-of_z}
use Rattle.codec.proofs.Readings.{worked_read}
use Rattle.codec.proofs.modes.LineWork.worked.Goals as goal

pub returns : goal.returns
returns g c =
    let a = c.args in
    worked_read a.self.frame.g a.self.modes a.block a.pel _ c.pel_mode-mode.ensures c.reading.ensures (to_z-of_z c.ranges.value) c.worked_from.ensures
