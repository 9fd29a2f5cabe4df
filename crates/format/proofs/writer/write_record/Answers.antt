use Rattle.std.proofs.Common.{ℕ, ◌*◌, List, length, sym, subst, arith, rules}
use Rattle.format.specs.Survival.{Holds}
use Rattle.format.proofs.SurvivalLaws.{records_read_back}
use Rattle.format.proofs.WriteLaws.{count_passed, ranged_passed}
use Rattle.format.proofs.writer.write_record.Goals as goal

pub put_record-requires : goal.put_record-requires
put_record-requires c = record {
  levels = let n = count_passed (8 * c.line_levels.result) (length c.args.levels.now) (sym c.in_ok-count_fits-2.ensures) in omega arith;
  room = let n = count_passed c.record_length.result (length c.args.buffer.now) (sym c.in_ok-count_fits-3.ensures) in omega arith;
}

pub invariant_of-put_record : goal.invariant_of-put_record
invariant_of-put_record c = record { ranged = ranged_passed c.args.words.now (sym c.in_ok-vectors_fit.ensures) }

pub returns : goal.returns
returns c =
    let words = c.args.words.now in
    let levels = c.args.levels.now in
    let blocks-passed = count_passed c.blocks-2.result (length words) (sym c.in_ok-count_fits.ensures) in
    let levels-passed = count_passed (8 * c.line_levels.result) (length levels) (sym c.in_ok-count_fits-2.ensures) in
    let ranged = ranged_passed words (sym c.in_ok-vectors_fit.ensures) in
    let P : List ℕ → Type 0 = Holds c.args.raster c.args.head words levels in
    record {
      verdict = search rules;
      read_back = λ _ fit. subst P (sym c.put_record.ensures) (records_read_back c.args.raster c.args.head words levels (omega arith) ranged (omega arith) fit);
      held = c.put_record.ensures;
    }
