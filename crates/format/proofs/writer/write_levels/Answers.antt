use Rattle.std.proofs.Common.{◌≡◌, ◌≢◌, map, get_or, pos, sym, ◌∙◌, arith, rules, below_more}
use Rattle.std.proofs.lemmas.List.{get_or-set_same, get_or-set_other, get_or-map, length-map, ext_get_or}
use Rattle.format.specs.Packing.{twos_field}
use Rattle.format.proofs.writer.write_levels.Goals as goal

pub loop-i-preserved : goal.loop-i-preserved
loop-i-preserved c =
    let bytes = c.loop-i.bytes in
    let i = c.loop-i.i in
    let byte = c.cast_unsigned.result in
    let level = get_or c.args.levels.now i (pos 0) in
    let written : byte ≡ twos_field 128 level = search rules in
    let place = get_or-map (twos_field 128) c.args.levels.now i (pos 0) 0 (omega arith) in
    below_more _ _
    (λ k h. let other : k ≢ i = omega arith in get_or-set_other bytes i k byte 0 other ∙ c.loop-i.invariant k h)
    (get_or-set_same bytes i byte 0 (omega arith) ∙ written ∙ sym place)

pub returns : goal.returns
returns c =
    let levels = c.args.levels.now in
    let long = length-map levels (twos_field 128) in
    ext_get_or 0 c.loop-i.bytes (map (twos_field 128) levels) (omega arith)
    (λ k h. c.loop-i.invariant k (omega arith))
