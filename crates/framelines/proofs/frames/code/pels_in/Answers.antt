use Rattle.std.proofs.Common.{◌<◌, ◌≢◌, map, length, take, pos, sym, ◌∙◌, arith, length-set, w8, SFits, to_z, of_z, rules, below_more}
use Rattle.std.proofs.lemmas.List.{get_or-set_same, get_or-set_other, get_or-map, get_or-take, length-map, length-take-le, ext_get_or}
use Rattle.std.proofs.lemmas.Int.{to_z-of_z}
use Rattle.format.specs.Bits.{level_of}
use Rattle.framelines.proofs.frames.code.pels_in.Goals as goal

pub loop-i-preserved : goal.loop-i-preserved
loop-i-preserved c =
    let pels = c.loop-i.pels in
    let i = c.loop-i.i in
    let pel = c.signed.result in
    let kept = to_z w8 (of_z w8 pel) in
    let fits : SFits w8 pel = search rules in
    let place = get_or-map level_of c.args.bytes.now i 0 (pos 0) c.loop-i-test.true in (
      length-set pels i kept ∙ c.loop-i.invariant.0,
      below_more _ _
          (λ k h. let other : k ≢ i = omega arith in get_or-set_other pels i k kept (pos 0) other ∙ c.loop-i.invariant.1 k h)
          (get_or-set_same pels i kept (pos 0) (omega (arith, c.loop-i.invariant.0, c.requires)) ∙ to_z-of_z w8 pel fits ∙ c.signed.ensures ∙ sym place),
    )

pub returns : goal.returns
returns c =
    let bytes = c.args.bytes.now in
    let pels = c.loop-i.pels in
    let n = length bytes in
    let taken = length-take-le n pels (omega (arith, c.loop-i.invariant.0, c.requires)) in
    let long = length-map bytes level_of in
    ext_get_or (pos 0) (take n pels) (map level_of bytes) (omega arith)
    (λ k h. let below : k < n = omega arith in get_or-take n pels k (pos 0) below ∙ c.loop-i.invariant.1 k (omega arith))
