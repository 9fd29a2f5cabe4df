use Rattle.std.proofs.Common.{◌≡◌, ℕ, ◌+◌, ◌*◌, ◌≤◌, List, length, take, sym, ap, ◌∙◌, arith}
use Rattle.std.proofs.lemmas.List.Edits.{length-between}
use Rattle.std.proofs.lemmas.List.{take_all}
use Rattle.format.specs.Front.{front_length}
use Rattle.format.specs.Raster.{width, line_levels, record_length}
use Rattle.format.proofs.RasterLaws.{record_length_is, width_least, width_most}
use Rattle.codec.specs.Coding.{Coded, coded, code_line, head_number}
use Rattle.codec.specs.Block.{line_modes}
use Rattle.codec.specs.Line.{head_value}
use Rattle.codec.specs.Step.{course}
use Rattle.std.specs.List.{between}
use Rattle.prediction.specs.declared.marks.BackgroundControl.{BackgroundControl}
use Rattle.codec.specs.declared.modes.Geometry.{Geometry}
use Rattle.codec.proofs.CodedBlocks.{row_within, line_turn, coded_all}
use Rattle.codec.proofs.modes.BlockLine.code.Goals as goal

pub slice_bounds-code_line-end-in-loop-i : goal.slice_bounds-code_line-end-in-loop-i
slice_bounds-code_line-end-in-loop-i g c =
    omega (
      arith,
      row_within c.loop-i.i c.line_levels-count.result c.loop-i-test.true,
      c.requires.room,
      c.loop-i.auto.buffer,
      record_length_is c.args.self.now.raster,
      c.front_length.ensures.value,
    )

pub code_line-counted-requires-clause-as_long : goal.code_line-counted-requires-clause-as_long
code_line-counted-requires-clause-as_long g c =
    let a = c.args in
    let b = a.self.now in
    let i = c.loop-i.i in
    let w = b.frame.g.width in
    let count = c.line_levels-count.result in
    let place = c.front_length.result + i * count in
    let wide : w ≡ width b.raster = ap (λ (x : Geometry). x.width) c.requires.over.lengths in
    let pels = length-between a.picture.now (i * w) (i * w + w) (omega (arith, row_within i w c.loop-i-test.true, c.requires.pels)) in
    let levels = length-between c.loop-i.buffer place (place + count)
    (omega (arith, row_within i count c.loop-i-test.true, c.requires.room, c.loop-i.auto.buffer, record_length_is b.raster, c.front_length.ensures.value)) in
    omega (arith, c.line_levels-count.ensures.value, width_least b.raster)

pub loop-i-preserved : goal.loop-i-preserved
loop-i-preserved g c =
    let a = c.args in
    let b = a.self.now in
    let i = c.loop-i.i in
    let w = b.frame.g.width in
    let count = c.line_levels-count.result in
    let first = c.front_length.result in
    let place = first + i * count in
    let tops = g.S.CharacteristicSet.tops b.set.now in
    let values = g.S.CharacteristicSet.values b.set.now in
    let numbers = g.S.CharacteristicSet.numbers b.set.now in
    let signal = g.M.EndMemories.signal in
    let line = c.code_line-counted in
    let before = course (signal c.loop-i.m) c.loop-i.counted in
    let wide : w ≡ width b.raster = ap (λ (x : Geometry). x.width) c.requires.over.lengths in
    let room : length c.loop-i.buffer ≡ record_length b.raster = c.loop-i.auto.buffer ∙ c.requires.room in
    let within = row_within i count c.loop-i-test.true in
    let levels = length-between c.loop-i.buffer place (place + count) (omega (arith, record_length_is b.raster, c.front_length.ensures.value)) in
    let long : length line.new.levels ≡ count = line.auto.levels ∙ levels ∙ omega arith in
    let pels = length-between a.picture.now (i * w) (i * w + w) (omega (arith, row_within i w c.loop-i-test.true, c.requires.pels)) in
    let few : line.result.held ≤ a.tally.held + 500 * (i + 1) = omega (arith, line.ensures.few, c.loop-i.invariant.1, width_most b.raster) in
    let under : BackgroundControl → Coded = λ k.
    code_line (head_number numbers b.head) a.stop b.frame.g k (line_modes b.header b.head b.second b.above (i + 1)) b.blocks (head_value tops values b.head)
    (between (i * w) (i * w + w) a.picture.now) before in (
      line_turn tops values numbers b.raster b.header b.second b.above a.stop a.picture.now a.buffer.now c.requires.room b.head b.frame.g b.blocks first count
          c.requires.over.head c.requires.over.lengths c.requires.over.blocks c.front_length.ensures.value c.line_levels-count.ensures.value i before
          (course (signal line.new.m) line.result) c.loop-i.buffer line.new.levels c.loop-i-test.true room long (line.ensures.does ∙ ap under c.requires.over.control)
          ∙ c.loop-i.invariant.0,
      few,
    )

pub returns-clause-does : goal.returns-clause-does
returns-clause-does g c =
    let a = c.args in
    let b = a.self.now in
    let r = b.raster in
    let i = c.loop-i.i in
    let now = course (g.M.EndMemories.signal c.loop-i.m) c.loop-i.counted in
    let last : i ≡ 8 = omega (arith, c.loop-i.auto.i-end, c.loop-i-test.false) in
    let rows = ap (λ (k : ℕ). k * line_levels r) last in
    let whole : take (front_length r + i * line_levels r) c.loop-i.buffer ≡ c.loop-i.buffer =
    take_all (front_length r + i * line_levels r) c.loop-i.buffer (omega (arith, c.loop-i.auto.buffer, c.requires.room, record_length_is r)) in
    sym (ap (λ (xs : List ℕ). coded xs now) whole)
    ∙ coded_all (g.S.CharacteristicSet.tops b.set.now) (g.S.CharacteristicSet.values b.set.now) (g.S.CharacteristicSet.numbers b.set.now) r
    b.header b.second b.above (take (front_length r) a.buffer.now) a.stop a.picture.now i now
    (take (front_length r + i * line_levels r) c.loop-i.buffer) c.loop-i-test.false
    ∙ c.loop-i.invariant.0
