use Rattle.std.proofs.Common.{◌≡◌, ◌+◌, ◌≤◌, length, take, drop}
use Rattle.codec.specs.Coding.{code_pels, head_number}
use Rattle.codec.specs.Line.{head_value}
use Rattle.codec.specs.Step.{course}
use Rattle.codec.specs.Written.{before}
use Rattle.codec.proofs.modes.BlockLine.code_levels.Given as goal

-- the levels written and those that are left to find are the ones found from the start
abbrev pub invariant-loop-i : goal.invariant-loop-i
invariant-loop-i g l =
    let signal = g.M.EndMemories.signal in
    let number = head_number (g.S.CharacteristicSet.numbers l.self.set.now) l.self.head in
    let value = head_value (g.S.CharacteristicSet.tops l.self.set.now) (g.S.CharacteristicSet.values l.self.set.now) l.self.head in
    let left = code_pels number l.stop l.line.frame.g l.line.frame.control l.line.modes l.self.blocks value in
    (before (take l.i l.levels) (left (l.i + 4) (drop l.i l.picture) (course (signal l.m) l.counted)) ≡ left 4 l.picture (course (signal l.initial.m) l.initial.counted))
    × (length l.levels ≡ length l.picture)
    × (l.counted.held ≤ l.initial.counted.held + l.i)
