use Rattle.std.proofs.Common.{◌≡◌, ◌+◌, ◌-◌, ◌*◌, ◌≤◌}
use Rattle.format.specs.Reader.{read_bytes}
use Rattle.codec.specs.Block.{lines_from, record_value}
use Rattle.codec.specs.Step.{course}
use Rattle.codec.proofs.modes.BlockLine.work.Given as goal

-- the lines that are left lead where all eight lead from the start
abbrev pub invariant-loop-number : goal.invariant-loop-number
invariant-loop-number g l =
    let signal = g.M.EndMemories.signal in
    let bytes = read_bytes l.reader in
    let value = record_value (g.S.CharacteristicSet.tops l.self.set.now) (g.S.CharacteristicSet.values l.self.set.now) bytes in
    let from = lines_from l.self.raster l.self.header l.self.second l.self.above value bytes in
    (from l.number (9 - l.number) (course (signal l.m) l.counted) ≡ from 1 8 (course (signal l.initial.m) l.initial.counted))
    × (l.counted.held + 500 ≤ l.initial.counted.held + 500 * l.number)
