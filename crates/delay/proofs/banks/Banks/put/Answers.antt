use Rattle.std.proofs.Common.{arith}
use Rattle.delay.proofs.Filling.{write_place_fitting}
use Rattle.delay.proofs.banks.Banks.put.Goals as goal

pub returns-in-0-clause-written : goal.returns-in-0-clause-written
returns-in-0-clause-written c = write_place_fitting c.args.self.now c.args.place 0 c.ranges.x c.requires c.in-0.is

pub returns-in-1-clause-written : goal.returns-in-1-clause-written
returns-in-1-clause-written c = write_place_fitting c.args.self.now c.args.place 1 c.ranges.x c.requires c.in-1.is

pub returns-in-2-clause-written : goal.returns-in-2-clause-written
returns-in-2-clause-written c = write_place_fitting c.args.self.now c.args.place 2 c.ranges.x c.requires c.in-2.is

pub returns-in_default-clause-written : goal.returns-in_default-clause-written
returns-in_default-clause-written c = write_place_fitting c.args.self.now c.args.place 3 c.ranges.x c.requires (omega arith)
