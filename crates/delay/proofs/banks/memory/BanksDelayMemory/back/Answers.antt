use Rattle.std.proofs.Common.{pos, Some, None, sym, ap, ◌∙◌, to_z-of_z, w8, SFits, rules}
use Rattle.delay.specs.Makes.{pels}
use Rattle.delay.proofs.Filling.{length-pels}
use Rattle.delay.proofs.Turning.{lies}
use Rattle.delay.proofs.banks.memory.BanksDelayMemory.back.Goals as goal

-- the pel lies where the place says
pub returns : goal.returns
returns c =
    let b = c.args.self.now in
    let at = lies _ (pels b) _ _ (Some c.in_ok-place.place) (length-pels b) b.within c.in_ok-place.ensures.found in
    let fits : SFits w8 c.at.result = search rules in
    ap Some (to_z-of_z fits ∙ c.at.ensures) ∙ sym (at.1 (pos 0))

pub returns-in_err-place : goal.returns-in_err-place
returns-in_err-place c =
    let b = c.args.self.now in
    let none = lies _ (pels b) _ _ None (length-pels b) b.within c.in_err-place.ensures.found in search rules
