use Rattle.std.proofs.Common.{◌+◌, ◌*◌, ◌≤◌, sym, ap, ◌∙◌, arith}
use Rattle.format.specs.Reader.{read_bytes}
use Rattle.format.specs.declared.raster.Raster.{Raster}
use Rattle.format.specs.Record.{line_in}
use Rattle.codec.specs.Block.{line_modes, block_line_work}
use Rattle.codec.specs.Line.{line_work, head_value}
use Rattle.codec.specs.Step.{course}
use Rattle.codec.proofs.BlockLines.{left_more, left_all}
use Rattle.codec.proofs.modes.BlockLine.work.Goals as goal

pub loop-number-preserved : goal.loop-number-preserved
loop-number-preserved g c =
    let a = c.args in
    let s = a.self.now in
    let bytes = read_bytes a.reader in
    let value = head_value (g.S.CharacteristicSet.tops s.set.now) (g.S.CharacteristicSet.values s.set.now) in
    let worked = c.work_numbered-counted in
    let few : worked.result.held + 500 ≤ a.tally.held + 500 * (c.loop-number.number + 1) = omega (arith, worked.ensures.few, c.loop-number.invariant.1) in
    let does =
    worked.ensures.does
    ∙ sym (ap (λ (r : Raster). line_work s.frame.g s.frame.control (line_modes s.header s.head s.second s.above c.loop-number.number) s.blocks (value s.head)
    (line_in r bytes c.loop-number.number) (course (g.M.EndMemories.signal c.loop-number.m) c.loop-number.counted)) c.requires.raster) in
    (left_more s bytes c.requires.over value c.loop-number.number _ _ c.loop-number-test.true does ∙ c.loop-number.invariant.0, few)

pub returns-clause-does : goal.returns-clause-does
unfolding block_line_work
returns-clause-does g c =
    let a = c.args in
    let s = a.self.now in
    let value = head_value (g.S.CharacteristicSet.tops s.set.now) (g.S.CharacteristicSet.values s.set.now) in
    left_all s (read_bytes a.reader) c.requires.over value c.loop-number.number _ c.loop-number-test.false ∙ c.loop-number.invariant.0
