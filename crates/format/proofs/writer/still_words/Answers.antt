use Rattle.std.proofs.Common.{◌≡◌, length, ◌∙◌, arith, ap}
use Rattle.std.proofs.lemmas.List.{take_at, length-take-le}
use Rattle.format.specs.Raster.{blocks}
use Rattle.format.specs.RecordOver.{front_bytes}
use Rattle.format.proofs.FrontLaws.{still_exactly}
use Rattle.format.proofs.writer.still_words.Goals as goal

pub returns : goal.returns
returns c =
    let raster = c.args.front.raster in
    let count : c.blocks-count.result ≡ blocks raster = c.blocks-count.ensures.value ∙ ap blocks c.raster.ensures in
    let long : length c.loop-i.word-items ≡ blocks raster =
    c.loop-i.auto.word-items ∙ length-take-le c.blocks-count.result _ (omega arith) ∙ count in
    take_at c.loop-i.word-items _ (blocks raster) long
    ∙ still_exactly raster (front_bytes c.args.front) c.loop-i.word-items long (λ k h. c.loop-i.invariant k (omega arith))
