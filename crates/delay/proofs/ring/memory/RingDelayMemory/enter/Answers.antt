use Rattle.std.proofs.Common.{Some, None, refl}
use Rattle.delay.proofs.Turning.{enters}
use Rattle.delay.proofs.ring.memory.RingDelayMemory.enter.Goals as goal

-- the oldest's cell is written
pub returns-in-Some : goal.returns-in-Some
returns-in-Some g c = (enters _ c.args.self.now.cells.now c.args.x _ (Some c.in-Some.place) refl c.args.self.now.within c.in-Some.ensures.found).1

pub returns-in_default : goal.returns-in_default
returns-in_default g c = enters _ c.args.self.now.cells.now c.args.x _ None refl c.args.self.now.within c.in_default.ensures.found
