use Rattle.std.proofs.Common.{◌≡◌, ◌+◌, ◌-◌, Bool, ℕ, pos, sym, ap, ◌∙◌, arith, w8, SFits, to_z, of_z, rules}
use Rattle.std.proofs.lemmas.Int.{to_z-of_z}
use Rattle.codec.proofs.Lines.{flush_more}
use Rattle.codec.specs.Line.{flush}
use Rattle.codec.specs.Step.{Course, course, settled}
use Rattle.codec.proofs.modes.FrameModes.flush.Goals.{After-enter_y-counted}
use Rattle.codec.proofs.modes.FrameModes.flush.Given.{Over}
use Rattle.codec.proofs.modes.FrameModes.flush.Goals as goal

-- one pending pel more
turn : (g : Over) (c : After-enter_y-counted g)
    → flush c.args.self.g c.args.self.control c.args.is_forced (c.args.self.g.width + 1 - (c.loop-pel.pel + 1)) (course (g.M.EndMemories.signal c.enter_y-counted.new.m) c.enter_y-counted.result)
    ≡ flush c.args.self.g c.args.self.control c.args.is_forced c.args.self.g.width (course (g.M.EndMemories.signal c.args.m.now) c.args.tally)
turn g c =
    let a = c.args in
    let p = c.loop-pel.pel in
    let s = g.M.EndMemories.signal c.loop-pel.m in
    let y = c.settled-y.result in
    let fits : SFits w8 y = search rules in
    let luminance = ap (λ (b : Bool). settled a.self.g b (a.self.g.width + 1 - p) (pos 0) s.line s.marks) c.is_luminance.ensures in
    flush_more a.self.g a.self.control a.is_forced p _ _ (to_z w8 (of_z w8 y)) (omega (arith, c.loop-pel.auto.pel)) c.loop-pel-test.true
    (to_z-of_z w8 y fits ∙ c.settled-y.ensures ∙ luminance) c.enter_y-counted.ensures
    ∙ c.loop-pel.invariant.0

pub loop-pel-preserved : goal.loop-pel-preserved
loop-pel-preserved g c =
    (turn g (goal.at.loop-pel-preserved g c).After-enter_y-counted, ap (λ (x : Course). x.tally.held) c.enter_y-counted.ensures ∙ c.loop-pel.invariant.1)

pub returns-2-clause-does : goal.returns-2-clause-does
returns-2-clause-does g c =
    let a = c.args in
    let last : a.self.g.width + 1 - (c.loop-pel.pel + 1) ≡ 0 = search rules in
    sym (ap (λ (n : ℕ). flush a.self.g a.self.control a.is_forced n (course (g.M.EndMemories.signal c.enter_y-counted.new.m) c.enter_y-counted.result)) last)
    ∙ turn g (goal.at.returns-2-clause-does g c).After-enter_y-counted
