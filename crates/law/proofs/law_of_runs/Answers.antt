use Rattle.law.proofs.Whole.{law_of_runs}
use Rattle.law.proofs.law_of_runs.Goals as goal

pub returns : goal.returns
returns c = law_of_runs
