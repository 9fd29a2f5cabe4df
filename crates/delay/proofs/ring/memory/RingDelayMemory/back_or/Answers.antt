use Rattle.std.proofs.Common.{Some, None, unwrap_or, sym, refl, ap}
use Rattle.delay.proofs.Turning.{lies}
use Rattle.delay.proofs.ring.memory.RingDelayMemory.back_or.Goals as goal

-- the element lies where the place says
pub returns-in-Some : goal.returns-in-Some
returns-in-Some g c =
    let at = lies _ c.args.self.now.cells.now _ _ (Some c.in-Some.place) refl c.args.self.now.within c.in-Some.ensures.found in
    sym (ap (λ o. unwrap_or o c.args.none) (at.1 c.index-self-place.result))

pub returns-in-None : goal.returns-in-None
returns-in-None g c =
    sym (ap (λ o. unwrap_or o c.args.none) (lies _ c.args.self.now.cells.now _ _ None refl c.args.self.now.within c.in-None.ensures.found))
