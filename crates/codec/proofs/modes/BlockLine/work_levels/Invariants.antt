use Rattle.std.proofs.Common.{◌≡◌, ℕ, ◌+◌, ◌≤◌, get_or, drop, ℤ, pos}
use Rattle.codec.specs.Line.{pels}
use Rattle.codec.specs.Step.{course}
use Rattle.codec.proofs.modes.BlockLine.work_levels.Given as goal

-- the levels that are left lead where all of them lead from the start
abbrev pub invariant-loop-i : goal.invariant-loop-i
invariant-loop-i g l =
    let signal = g.M.EndMemories.signal in
    let value : ℕ → ℤ = λ x. get_or l.values x (pos 0) in
    let left = pels l.line.frame.g l.line.frame.control l.line.modes l.self.blocks value in
    (left (l.i + 4) (drop l.i l.levels) (course (signal l.m) l.counted) ≡ left 4 l.levels (course (signal l.initial.m) l.initial.counted))
    × (l.counted.held ≤ l.initial.counted.held + l.i)
