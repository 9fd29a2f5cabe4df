use Rattle.std.proofs.Common.{◌≡◌, ◌<◌, ◌^◌, ℤ, pos, ◌+ℤ◌, ◌*ℤ◌, nat_abs, ap, ◌∙◌, arith, w8, w64, to_z, of_z}
use Rattle.std.proofs.lemmas.Int.{ints, to_z-of_z}
use Rattle.codec.proofs.Vectors.{natural_or}
use Rattle.codec.specs.Block.{natural}
use Rattle.codec.proofs.modes.FrameModes.vector_delay.Goals as goal

pub returns : goal.returns
returns c =
    let a = c.args in
    let rows = c.rows_delay.result in
    let near : ℤ = to_z w64 a.self.g.frame +ℤ to_z w64 (of_z w64 c.from.result) in
    let delay : ℤ = to_z w64 (of_z w64 (to_z w64 (of_z w64 near) +ℤ to_z w64 (of_z w64 rows))) in
    let vx : c.from.result ≡ a.vx = c.from.ensures ∙ to_z-of_z w8 a.vx c.ranges.vx in
    let vy : rows ≡ pos a.self.g.width *ℤ a.vy = c.rows_delay.ensures.value ∙ ap (λ (z : ℤ). pos a.self.g.width *ℤ z) (to_z-of_z w8 a.vy c.ranges.vy) in
    let small = c.rows_delay.ensures.bound in
    let most = a.self.bounded in
    let same : delay ≡ pos a.self.g.frame +ℤ a.vx +ℤ rows = omega (arith, ints) in
    let fits : nat_abs delay < 2 ^ 64 = omega (arith, ints) in
    c.unwrap_or.ensures ∙ natural_or delay c.try_from.result fits c.try_from.ensures ∙ ap natural (same ∙ ap (λ (z : ℤ). pos a.self.g.frame +ℤ a.vx +ℤ z) vy)
