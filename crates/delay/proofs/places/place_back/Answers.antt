use Rattle.std.proofs.Common.{arith}
use Rattle.delay.proofs.Turning.{place_past, place_near, place_far}
use Rattle.delay.proofs.places.place_back.Goals as goal

pub returns-then-n-len-clause-found : goal.returns-then-n-len-clause-found
returns-then-n-len-clause-found c = grind (arith, place_past)

pub returns-then-n-next-clause-found : goal.returns-then-n-next-clause-found
returns-then-n-next-clause-found c = grind (arith, place_near)

pub returns-else-n-next-clause-found : goal.returns-else-n-next-clause-found
returns-else-n-next-clause-found c = grind (arith, place_far)
