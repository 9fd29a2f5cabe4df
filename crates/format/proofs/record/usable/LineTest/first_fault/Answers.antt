use Rattle.std.proofs.Common.{◌≡◌, ◌+◌, ◌-◌, ◌*◌, ltb, get_or, nat_abs, sym, ap, ◌∙◌, arith, rules}
use Rattle.format.specs.Bits.{level_of}
use Rattle.format.specs.RecordOver.{bytes_of}
use Rattle.format.specs.Usable.{refuse_if, in_order, level_test, line_test}
use Rattle.format.specs.declared.refusal.Refusal.TheVariants.{LevelValue}
use Rattle.format.proofs.Sizes.{size_test}
use Rattle.format.proofs.record.usable.LineTest.first_fault.Goals as goal

pub returns : goal.returns
unfolding line_test
returns c =
    let raster = c.args.self.now.record.raster in
    let line = c.args.self.now.line in
    let levels = c.line-levels.result.now in
    let sizes = c.args.largest.now in
    let test = level_test raster c.args.self.now.sbc c.args.self.now.top (bytes_of c.args.self.now.record) line in
    c.in_order.ensures test (λ pel verdict low high answer.
    let fault = ltb (get_or sizes (pel - 4) 0) (nat_abs (level_of (get_or levels (pel - 4) 0))) in
    let refused : verdict ≡ refuse_if fault (LevelValue ((line - 1) * c.width.result + pel)) = search rules in
    refused
    ∙ ap (λ w. refuse_if fault (LevelValue ((line - 1) * w + pel))) c.width.ensures.value
    ∙ sym (size_test raster c.args.self.now.sbc c.args.self.now.top (bytes_of c.args.self.now.record) line levels sizes
    c.line-levels.ensures.value c.requires pel low (omega arith)))
    ∙ ap (in_order test 4) c.line-levels.ensures.len
