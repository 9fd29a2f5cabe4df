use Rattle.std.proofs.Common.{◌≡◌, ◌+◌, ◌-◌, ◌*◌, ◌≤◌, take}
use Rattle.format.specs.Front.{front_length}
use Rattle.format.specs.Raster.{line_levels}
use Rattle.codec.specs.Coder.{code_lines}
use Rattle.codec.specs.Step.{course}
use Rattle.codec.specs.Written.{before}
use Rattle.codec.proofs.modes.BlockLine.code.Given as goal

-- what is written already and the lines that are left are the front and all eight lines
abbrev pub invariant-loop-i : goal.invariant-loop-i
invariant-loop-i g l =
    let signal = g.M.EndMemories.signal in
    let b = l.self in
    let front = take (front_length b.raster) l.initial.buffer in
    let from =
    code_lines (g.S.CharacteristicSet.tops b.set.now) (g.S.CharacteristicSet.values b.set.now) (g.S.CharacteristicSet.numbers b.set.now) b.raster b.header b.second
    b.above front l.stop l.picture in
    (before (take (front_length b.raster + l.i * line_levels b.raster) l.buffer) (from (1 + l.i) (8 - l.i) (course (signal l.m) l.counted))
    ≡ before front (from 1 8 (course (signal l.initial.m) l.initial.counted)))
    × (l.counted.held ≤ l.initial.counted.held + 500 * l.i)
