use Rattle.std.proofs.Common.{◌≡◌, ℕ, ◌-◌, List, ◌++◌, length, take, sym, ap, ◌∙◌, arith}
use borrow.Rule.Slice.PartMut.{post_of}
use Rattle.format.specs.Front.{front_length, front_written}
use Rattle.format.specs.declared.header.Header.{Header}
use Rattle.format.specs.declared.raster.Raster.{Raster}
use Rattle.format.proofs.RasterLaws.{record_length_is}
use Rattle.codec.specs.Coder.{code_lines, coded_lines}
use Rattle.codec.specs.Coding.{Coded, coded}
use Rattle.codec.specs.Decoder.{frame_of}
use Rattle.codec.specs.Step.{course}
use Rattle.codec.specs.Written.{before}
use Rattle.codec.proofs.CodedBlocks.{front_room, written_front, front_passed}
use Rattle.codec.proofs.CodedRecords.{record_is, record_coded, coded_course, written_front_long}
use Rattle.codec.proofs.coder.end+Open+Coder.code_next.Given as given
use Rattle.codec.proofs.coder.end+Open+Coder.code_next.Goals as goal
use Rattle.codec.proofs.coder.end+Open+Coder.code_next.Goals.{After-code}

pub slice_bounds-write_front-end : goal.slice_bounds-write_front-end
slice_bounds-write_front-end g c = omega (arith, c.requires.room, record_length_is c.args.self.now.raster, c.front_length-first.ensures.value)

-- the front that is written, and the lines that are coded behind it
written : (g : given.Over) (c : After-code g)
    → coded c.code.new.buffer (course (g.M.EndMemories.signal c.code.new.m) c.code.result)
    ≡ before (front_written c.args.self.now.raster c.args.stop c.args.front.now)
    (coded_lines (g.S.CharacteristicSet.tops c.args.set.now) (g.S.CharacteristicSet.values c.args.set.now) (g.S.CharacteristicSet.numbers c.args.set.now)
    (frame_of c.args.self.now) c.args.front.now c.args.stop c.args.picture.now (g.M.EndMemories.signal c.args.m.now))
written g c =
    let a = c.args in
    let f = frame_of a.self.now in
    let r = a.self.now.raster in
    let b = c.next_over.result in
    let is = c.next_over.ensures in
    let first = c.front_length-first.result in
    let part = c.write_front.new.buffer in
    let s = g.M.EndMemories.signal a.m.now in
    let counted = course (g.M.EndMemories.signal c.between_fields-counted.new.m) c.between_fields-counted.result in
    let tops = g.S.CharacteristicSet.tops in
    let values = g.S.CharacteristicSet.values in
    let numbers = g.S.CharacteristicSet.numbers in
    let room = front_room r a.buffer.now first c.front_length-first.ensures.value c.requires.room in
    let passed = front_passed r a.front.now _ _ _ _ c.requires.fronted room c.write_front.ensures.verdict c.write_front.ensures.held in
    let long : length part ≡ front_length r = ap length passed ∙ written_front_long r a.stop a.front.now c.requires.fronted in
    let front = written_front r a.buffer.now first c.front_length-first.ensures.value c.requires.room part long ∙ passed in
    let buffer = part ++ post_of 0 (first - 0) a.buffer.now in
    let lines : Raster → Header → List ℕ → Coded = λ r h xs.
    before xs (code_lines (tops b.set.now) (values b.set.now) (numbers b.set.now) r h b.second b.above xs a.stop a.picture.now 1 8 counted) in
    let found =
    c.code.ensures.does
    ∙ ap (λ (r : Raster). lines r b.header (take (front_length r) buffer)) is.raster
    ∙ ap (lines r b.header) front
    ∙ ap (λ (h : Header). lines r h (front_written r a.stop a.front.now)) is.header
    ∙ ap (λ set. before (front_written r a.stop a.front.now)
    (code_lines (tops set) (values set) (numbers set) r f.header b.second b.above (front_written r a.stop a.front.now) a.stop a.picture.now 1 8 counted)) is.set in
    record_coded (tops a.set.now) (values a.set.now) (numbers a.set.now) f a.front.now a.stop a.picture.now s _ b.second b.above counted
    is.second is.above c.between_fields-counted.ensures.does found

pub returns-clause-written : goal.returns-clause-written
returns-clause-written g c =
    let a = c.args in
    ap (λ (x : Coded). x.levels) (written g (goal.at.returns-clause-written g c).After-code)
    ∙ sym (record_is (g.S.CharacteristicSet.tops a.set.now) (g.S.CharacteristicSet.values a.set.now) (g.S.CharacteristicSet.numbers a.set.now) (frame_of a.self.now)
    a.front.now a.stop a.picture.now (g.M.EndMemories.signal a.m.now))

pub returns-clause-does : goal.returns-clause-does
returns-clause-does g c =
    let a = c.args in
    ap (λ (x : Coded). x.after) (written g (goal.at.returns-clause-does g c).After-code)
    ∙ sym (coded_course (g.S.CharacteristicSet.tops a.set.now) (g.S.CharacteristicSet.values a.set.now) (g.S.CharacteristicSet.numbers a.set.now) (frame_of a.self.now)
    a.front.now a.stop a.picture.now (g.M.EndMemories.signal a.m.now) c.requires.fronted c.requires.pels)
