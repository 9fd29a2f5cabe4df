use Rattle.std.proofs.Common.{◌≡◌, ◌-◌}
use Rattle.codec.specs.Line.{resets}
use Rattle.codec.proofs.line.enter_resets.Given as goal

-- the reset pels that are left lead where all of them lead from the start
abbrev pub invariant-loop : goal.invariant-loop
invariant-loop g l =
    let signal = g.M.EndMemories.signal in
    resets (l.count - l.counter) (signal l.m) ≡ resets l.count (signal l.initial.m)
