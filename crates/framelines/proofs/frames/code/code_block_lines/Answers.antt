use Rattle.std.proofs.Common.{◌≡◌, ℕ, ◌*◌, ap, ◌∙◌, arith}
use Rattle.codec.specs.Decoder.{frame_of}
use Rattle.codec.specs.Decoder.{block_lines}
use Rattle.format.specs.Raster.{record_length}
use Rattle.std.proofs.lemmas.Result.{err_from_is_err_and}
use Rattle.framelines.proofs.CodedFrom.{part_ends, block_lines_begun, coded_from_turn, coded_from_done}
use Rattle.framelines.proofs.frames.code.code_block_lines.Goals as goal

pub slice_bounds-code_block_line-end : goal.slice_bounds-code_block_line-end
slice_bounds-code_block_line-end g c =
    let size = c.record_length-output.result in
    let n = 2 * c.block_lines-i-end.result in
    let r = c.args.raster in
    let rows : n * size ≡ block_lines r * record_length r =
    ap (λ (k : ℕ). 2 * k * size) c.block_lines-i-end.ensures.value ∙ ap (λ (k : ℕ). block_lines r * k) c.record_length-output.ensures.value in
    omega (arith, part_ends size c.loop-i.i n c.loop-i-test.true, c.requires, c.loop-i.auto.out)

pub loop-i-init : goal.loop-i-init
loop-i-init g c =
    let a = c.args in
    block_lines_begun (g.S.CharacteristicSet.tops a.set.now) (g.S.CharacteristicSet.values a.set.now) (g.S.CharacteristicSet.numbers a.set.now)
    a.raster a.bytes.now c.input_length-input.result c.record_length-output.result (2 * c.block_lines-i-end.result) _ a.out.now _
    (ap (λ k. 2 * k) c.block_lines-i-end.ensures.value)

pub loop-i-preserved : goal.loop-i-preserved
loop-i-preserved g c =
    let a = c.args in
    coded_from_turn (g.S.CharacteristicSet.tops a.set.now) (g.S.CharacteristicSet.values a.set.now) (g.S.CharacteristicSet.numbers a.set.now)
    a.raster a.bytes.now c.input_length-input.result c.record_length-output.result (2 * c.block_lines-i-end.result) c.loop-i.i
    (frame_of c.loop-i.open) c.loop-i.out _ _ _ _ _ c.loop-i-test.true c.input_length-input.ensures.value
    c.record_length-output.ensures.value c.piece-given.ensures c.in_ok-open.ensures
    ∙ c.loop-i.invariant

pub returns-in_err-open : goal.returns-in_err-open
returns-in_err-open g c =
    let a = c.args in
    let why = err_from_is_err_and c.from_residual.result c.from_residual.ensures.1 in
    rw (why.1, why.2)
    (coded_from_turn (g.S.CharacteristicSet.tops a.set.now) (g.S.CharacteristicSet.values a.set.now) (g.S.CharacteristicSet.numbers a.set.now)
    a.raster a.bytes.now c.input_length-input.result c.record_length-output.result (2 * c.block_lines-i-end.result) c.loop-i.i
    (frame_of c.loop-i.open) c.loop-i.out _ _ _ _ _ c.loop-i-test.true c.input_length-input.ensures.value
    c.record_length-output.ensures.value c.piece-given.ensures c.in_err-open.ensures
    ∙ c.loop-i.invariant)

pub returns : goal.returns
returns g c =
    let a = c.args in
    coded_from_done (g.S.CharacteristicSet.tops a.set.now) (g.S.CharacteristicSet.values a.set.now) (g.S.CharacteristicSet.numbers a.set.now)
    a.raster a.bytes.now c.input_length-input.result c.record_length-output.result (2 * c.block_lines-i-end.result) c.loop-i.i
    (frame_of c.loop-i.open) c.loop-i.out _ c.loop-i-test.false
    ∙ c.loop-i.invariant
