use Rattle.std.proofs.Common.{◌≡◌, pos, rules}
use Rattle.codec.specs.Line.{head_value}
use Rattle.codec.proofs.Made.{made}
use Rattle.codec.proofs.modes.BlockLine.level_values.Goals as goal

pub returns : goal.returns
returns g c =
    let s = c.args.self.now in
    made _ (λ b v. v ≡ head_value (g.S.CharacteristicSet.tops s.set.now) (g.S.CharacteristicSet.values s.set.now) s.head b) _ c.from_fn.result (pos 0) 256
    (λ i y q l k. search rules) c.from_fn.ensures.items
