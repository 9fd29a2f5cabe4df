use Rattle.std.proofs.Common.{◌+◌, set, Some, None, ap, ◌∙◌, to_z-of_z}
use Rattle.delay.specs.Makes.{pels}
use Rattle.delay.specs.Rotated.{rotated}
use Rattle.delay.proofs.Filling.{length-pels}
use Rattle.delay.proofs.Turning.{enters}
use Rattle.delay.proofs.banks.memory.BanksDelayMemory.enter.Goals as goal

-- the oldest's cell is written
pub returns-in-Some-clause-held : goal.returns-in-Some-clause-held
returns-in-Some-clause-held c =
    let b = c.args.self.now in
    ap (rotated (c.in-Some.place + 1)) (c.put.ensures.written ∙ ap (set (pels b) c.in-Some.place) (to_z-of_z c.ranges.x))
    ∙ (enters _ (pels b) c.args.x _ (Some c.in-Some.place) (length-pels b) b.within c.in-Some.ensures.found).1

pub returns-in_default-clause-held : goal.returns-in_default-clause-held
returns-in_default-clause-held c =
    let b = c.args.self.now in enters _ (pels b) c.args.x _ None (length-pels b) b.within c.in_default.ensures.found
