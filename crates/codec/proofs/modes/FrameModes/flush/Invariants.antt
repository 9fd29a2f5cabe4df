use Rattle.std.proofs.Common.{◌≡◌, ◌+◌, ◌-◌}
use Rattle.codec.specs.Line.{flush}
use Rattle.codec.specs.Step.{course}
use Rattle.codec.proofs.modes.FrameModes.flush.Given as goal

-- the pels that are left lead where the whole line leads from the start
abbrev pub invariant-loop-pel : goal.invariant-loop-pel
invariant-loop-pel g l =
    let signal = g.M.EndMemories.signal in
    let left = flush l.self.g l.self.control l.is_forced in
    (left (l.self.g.width + 1 - l.pel) (course (signal l.m) l.counted) ≡ left l.self.g.width (course (signal l.initial.m) l.initial.counted))
    × (l.counted.held ≡ l.initial.counted.held)
