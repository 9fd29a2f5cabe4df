use Rattle.std.proofs.Common.{◌+◌, ◌≤◌, get_or, pos, refl, ap, ◌∙◌, arith, length-set, w8, SFits, rules}
use Rattle.std.proofs.lemmas.Int.{to_z-of_z}
use Rattle.codec.specs.Coding.{level_at, head_number}
use Rattle.codec.specs.Line.{block_at, head_value}
use Rattle.codec.proofs.CodedLines.{code_more, code_all}
use Rattle.codec.proofs.modes.BlockLine.code_levels.Goals as goal

pub loop-i-preserved : goal.loop-i-preserved
loop-i-preserved g c =
    let a = c.args in
    let s = a.self.now in
    let l = a.line in
    let number = head_number (g.S.CharacteristicSet.numbers s.set.now) s.head in
    let value = head_value (g.S.CharacteristicSet.tops s.set.now) (g.S.CharacteristicSet.values s.set.now) s.head in
    let coded = c.code_pel-coded in
    let p = c.loop-i.i + 4 in
    let z = get_or a.picture.now c.loop-i.i (pos 0) in
    let fits : SFits w8 z = search rules in
    let found = coded.ensures.found ∙ ap (λ y. level_at number a.stop l.frame.g l.modes (block_at s.blocks p) p y (g.M.EndMemories.signal c.loop-i.m)) (to_z-of_z w8 z fits) in
    let few : coded.result.tally.held ≤ a.tally.held + (c.loop-i.i + 1) = omega (arith, coded.ensures.few, c.loop-i.invariant.2) in (
      code_more number a.stop l.frame.g l.frame.control l.modes s.blocks value a.picture.now c.loop-i.levels c.loop-i.i _ _ _
          coded.result.level _ c.loop-i-test.true c.loop-i.invariant.1 refl found refl coded.ensures.does
          ∙ c.loop-i.invariant.0,
      length-set c.loop-i.levels c.loop-i.i coded.result.level ∙ c.loop-i.invariant.1,
      few,
    )

pub returns-clause-does : goal.returns-clause-does
returns-clause-does g c =
    let a = c.args in
    let s = a.self.now in
    let l = a.line in
    let number = head_number (g.S.CharacteristicSet.numbers s.set.now) s.head in
    let value = head_value (g.S.CharacteristicSet.tops s.set.now) (g.S.CharacteristicSet.values s.set.now) s.head in
    code_all number a.stop l.frame.g l.frame.control l.modes s.blocks value a.picture.now c.loop-i.levels c.loop-i.i _ c.loop-i-test.false c.loop-i.invariant.1
    ∙ c.loop-i.invariant.0
