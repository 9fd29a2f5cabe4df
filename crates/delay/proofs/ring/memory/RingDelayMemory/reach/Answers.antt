use Rattle.std.proofs.Common.{sym}
use Rattle.delay.proofs.Turning.{length-rotated}
use Rattle.delay.proofs.ring.memory.RingDelayMemory.reach.Goals as goal

pub returns : goal.returns
returns g c = sym (length-rotated c.args.self.now.next c.args.self.now.cells.now)
