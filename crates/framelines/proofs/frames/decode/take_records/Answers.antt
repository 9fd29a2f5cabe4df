use Rattle.std.proofs.Common.{◌*◌, ap, ◌∙◌}
use Rattle.std.proofs.lemmas.Result.{err_from_is_err_and}
use Rattle.framelines.proofs.Records.{records_begun, records_from_turn, records_from_done}
use Rattle.framelines.proofs.frames.decode.take_records.Goals as goal

pub loop-i-init : goal.loop-i-init
loop-i-init g c =
    let a = c.args in
    records_begun (g.S.CharacteristicSet.tops a.set.now) (g.S.CharacteristicSet.values a.set.now) a.bytes.now c.record_length-length.result a.raster
    (2 * c.block_lines-i-end.result) _ _ c.record_length-length.ensures.value (ap (λ k. 2 * k) c.block_lines-i-end.ensures.value)

pub loop-i-preserved : goal.loop-i-preserved
loop-i-preserved g c =
    let a = c.args in
    records_from_turn (g.S.CharacteristicSet.tops a.set.now) (g.S.CharacteristicSet.values a.set.now) a.bytes.now c.record_length-length.result
    (2 * c.block_lines-i-end.result) c.loop-i.i _ _ _ _ c.loop-i-test.true c.piece-record.ensures c.in_ok-open.ensures
    ∙ c.loop-i.invariant

pub returns-in_err-open : goal.returns-in_err-open
returns-in_err-open g c =
    let a = c.args in
    let why = err_from_is_err_and c.from_residual.result c.from_residual.ensures.1 in
    rw (why.1, why.2)
    (records_from_turn (g.S.CharacteristicSet.tops a.set.now) (g.S.CharacteristicSet.values a.set.now) a.bytes.now c.record_length-length.result
    (2 * c.block_lines-i-end.result) c.loop-i.i _ _ _ _ c.loop-i-test.true c.piece-record.ensures c.in_err-open.ensures
    ∙ c.loop-i.invariant)

pub returns : goal.returns
returns g c =
    let a = c.args in
    records_from_done (g.S.CharacteristicSet.tops a.set.now) (g.S.CharacteristicSet.values a.set.now) a.bytes.now c.record_length-length.result
    (2 * c.block_lines-i-end.result) c.loop-i.i _ _ c.loop-i-test.false
    ∙ c.loop-i.invariant
