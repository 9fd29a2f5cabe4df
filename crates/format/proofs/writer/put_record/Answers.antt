use Rattle.std.proofs.Common.{◌≡◌, ◌-◌, ◌∷◌, ◌++◌, map, length, ◌∙◌, ap₂, arith}
use Rattle.std.specs.List.{range_with_len}
use Rattle.format.specs.Raster.{word_bytes}
use Rattle.format.specs.RecordWriting.{words_byte, record_bytes}
use Rattle.format.proofs.RasterLaws.{record_length_is}
use Rattle.format.proofs.writer.put_record.Goals as goal

pub split_at_mut-front-requires : goal.split_at_mut-front-requires
split_at_mut-front-requires c = omega (arith, record_length_is c.args.raster)

pub write_levels-requires : goal.write_levels-requires
write_levels-requires c = omega (arith, record_length_is c.args.raster)

pub returns : goal.returns
unfolding record_bytes
returns c =
    let n : length c.split_at_mut-front.result.0.now - 1 ≡ word_bytes c.args.raster = omega arith in
    ap₂ ◌++◌
    (c.write.ensures ∙ ap₂ (λ h n. h ∷ map (words_byte c.args.words.words.now) (range_with_len 0 n)) c.from.ensures n)
    c.write_levels.ensures
