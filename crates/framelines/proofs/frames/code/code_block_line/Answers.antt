use Rattle.std.proofs.Common.{◌≡◌, length, sym, ◌∙◌}
use Rattle.codec.specs.Decoder.{frame_of}
use Rattle.std.proofs.lemmas.Result.{err_from_is_err_and}
use Rattle.format.proofs.WriteLaws.{count_passed}
use Rattle.framelines.specs.CodedFrames.{input_length}
use Rattle.framelines.proofs.CodedFrom.{block_line_whole}
use Rattle.framelines.proofs.frames.code.code_block_line.Goals as goal

pub returns : goal.returns
returns g c =
    let a = c.args in
    let meaning = g.M.EndMemories.signal in
    let fits = sym c.count_fits.ensures ∙ c.in_ok-count_fits.was in
    let whole : length a.bytes.now ≡ input_length a.raster = count_passed _ _ fits ∙ c.input_length.ensures.value in
    block_line_whole (g.S.CharacteristicSet.tops a.set.now) (g.S.CharacteristicSet.values a.set.now) (g.S.CharacteristicSet.numbers a.set.now) a.raster
    (frame_of a.end) a.bytes.now a.buffer.now (meaning a.m.now) c.front_length-first.result c.width-count.result c.pels_in-pels.result _
    whole c.front_length-first.ensures.value c.width-count.ensures.value c.pels_in-pels.ensures c.in_ok-block_line.ensures

pub returns-in_err-block_line : goal.returns-in_err-block_line
returns-in_err-block_line g c =
    let a = c.args in
    let meaning = g.M.EndMemories.signal in
    let fits = sym c.count_fits.ensures ∙ c.in_ok-count_fits.was in
    let whole : length a.bytes.now ≡ input_length a.raster = count_passed _ _ fits ∙ c.input_length.ensures.value in
    let why = err_from_is_err_and c.from_residual-in_err-block_line.result c.from_residual-in_err-block_line.ensures.1 in
    rw (why.1, why.2)
    (block_line_whole (g.S.CharacteristicSet.tops a.set.now) (g.S.CharacteristicSet.values a.set.now) (g.S.CharacteristicSet.numbers a.set.now) a.raster
    (frame_of a.end) a.bytes.now a.buffer.now (meaning a.m.now) c.front_length-first.result c.width-count.result c.pels_in-pels.result _
    whole c.front_length-first.ensures.value c.width-count.ensures.value c.pels_in-pels.ensures c.in_err-block_line.ensures)
