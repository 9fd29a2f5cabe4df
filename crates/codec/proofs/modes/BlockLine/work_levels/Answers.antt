use Rattle.std.proofs.Common.{ℕ, ◌<◌, get_or, ℤ, pos, ◌∙◌, rules}
use Rattle.codec.specs.Line.{head_value}
use Rattle.codec.proofs.Lines.{pels_all, pels_same}
use Rattle.codec.proofs.modes.BlockLine.work_levels.Goals as goal

pub returns-clause-does : goal.returns-clause-does
returns-clause-does g c =
    let a = c.args in
    let s = a.self.now in
    let line = a.line in
    let value : ℕ → ℤ = λ x. get_or c.level_values-values.result x (pos 0) in
    let standing = head_value (g.S.CharacteristicSet.tops s.set.now) (g.S.CharacteristicSet.values s.set.now) s.head in
    let low : (i : ℕ) → get_or a.levels.now i 0 < 256 = λ i. search rules in
    pels_all line.frame.g line.frame.control line.modes s.blocks value a.levels.now c.loop-i.i _ c.loop-i-test.false
    ∙ c.loop-i.invariant.0
    ∙ pels_same line.frame.g line.frame.control line.modes s.blocks value standing c.level_values-values.ensures 4 a.levels.now _ low
