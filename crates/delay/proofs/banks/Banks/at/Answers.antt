use Rattle.std.proofs.Common.{arith, rules}
use Rattle.delay.proofs.Filling.{read_place}
use Rattle.delay.proofs.banks.Banks.at.Goals as goal

pub returns-in-0 : goal.returns-in-0
returns-in-0 c = let read = read_place c.args.self.now c.args.place 0 c.requires c.in-0.is in search rules

pub returns-in-1 : goal.returns-in-1
returns-in-1 c = let read = read_place c.args.self.now c.args.place 1 c.requires c.in-1.is in search rules

pub returns-in-2 : goal.returns-in-2
returns-in-2 c = let read = read_place c.args.self.now c.args.place 2 c.requires c.in-2.is in search rules

pub returns-in_default : goal.returns-in_default
returns-in_default c = let read = read_place c.args.self.now c.args.place 3 c.requires (omega arith) in search rules
