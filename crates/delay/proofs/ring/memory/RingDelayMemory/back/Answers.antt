use Rattle.std.proofs.Common.{Some, None, sym, refl, rules}
use Rattle.delay.proofs.Turning.{lies}
use Rattle.delay.proofs.ring.memory.RingDelayMemory.back.Goals as goal

-- the element lies where the place says
pub returns : goal.returns
returns g c =
    let at = lies _ c.args.self.now.cells.now _ _ (Some c.in_ok-place.place) refl c.args.self.now.within c.in_ok-place.ensures.found in
    sym (at.1 c.index-self-place.result)

pub returns-in_err-place : goal.returns-in_err-place
returns-in_err-place g c =
    let none = lies _ c.args.self.now.cells.now _ _ None refl c.args.self.now.within c.in_err-place.ensures.found in search rules
