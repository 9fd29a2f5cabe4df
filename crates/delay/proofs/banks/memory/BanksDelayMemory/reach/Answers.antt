use Rattle.std.proofs.Common.{sym, ◌∙◌}
use Rattle.delay.proofs.Filling.{length-pels}
use Rattle.delay.proofs.Turning.{length-rotated}
use Rattle.delay.specs.Makes.{pels}
use Rattle.delay.proofs.banks.memory.BanksDelayMemory.reach.Goals as goal

pub returns : goal.returns
returns c = sym (length-rotated c.args.self.now.next (pels c.args.self.now) ∙ length-pels c.args.self.now)
