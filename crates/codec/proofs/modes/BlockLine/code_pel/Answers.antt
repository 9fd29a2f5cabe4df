use Rattle.std.proofs.Common.{◌≡◌, ℤ, sym, ap, ◌∙◌, rules}
use Rattle.prediction.specs.Rules.{byte}
use Rattle.prediction.specs.declared.marks.Worked.{Worked}
use Rattle.codec.specs.Coding.{prepared, prediction_from, level_for, head_number}
use Rattle.codec.specs.Line.{block_at, head_value}
use Rattle.codec.specs.Modes.{pel_mode}
use Rattle.codec.specs.Signal.{Signal}
use Rattle.codec.specs.Step.{Course, course, reading_as, worked_from, enter_pel}
use Rattle.codec.specs.declared.modes.PelMode.{PelMode}
use Rattle.codec.proofs.Readings.{worked_reading, predicted_reading}
use Rattle.codec.proofs.modes.BlockLine.code_pel.Goals as goal

-- what is read once serves the level and the step
pub returns-clause-found : goal.returns-clause-found
returns-clause-found g c =
    let a = c.args in
    let l = a.line in
    let b = block_at a.self.now.blocks a.pel in
    let s : Signal = g.M.EndMemories.signal a.m.now in
    let mode : PelMode = pel_mode l.modes b.subsampled a.pel in
    let level : ℤ → ℤ = λ p. level_for (head_number (g.S.CharacteristicSet.numbers a.self.now.set.now) a.self.now.head) a.stop mode p (prepared l.frame.g a.pel a.z) in
    let read : c.byte-level.result ≡ byte (level (prediction_from (reading_as mode l.frame.g l.modes b a.pel s))) = search rules in
    read ∙ ap (λ p. byte (level p)) (sym (predicted_reading mode l.frame.g l.modes b a.pel s))

pub returns-clause-does : goal.returns-clause-does
returns-clause-does g c =
    let a = c.args in
    let l = a.line in
    let b = block_at a.self.now.blocks a.pel in
    let s : Signal = g.M.EndMemories.signal a.m.now in
    let mode : PelMode = pel_mode l.modes b.subsampled a.pel in
    let v : ℤ = head_value (g.S.CharacteristicSet.tops a.self.now.set.now) (g.S.CharacteristicSet.values a.self.now.set.now) a.self.now.head c.byte-level.result in
    let enters : Worked → Course = λ x. enter_pel l.frame.g l.frame.control l.modes a.pel x (course s a.tally) in
    let read : course (g.M.EndMemories.signal c.enter_pel.new.m) c.enter_pel.result ≡ enters (worked_from (reading_as mode l.frame.g l.modes b a.pel s) v) = search rules in
    read ∙ ap enters (sym (worked_reading mode l.frame.g l.modes b a.pel v s))
