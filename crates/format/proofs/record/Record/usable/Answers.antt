use Rattle.std.proofs.Common.{◌≡◌, Err, sym, ap, ap₂, ◌∙◌}
use Rattle.std.proofs.lemmas.Result.{err_from_is_err_and}
use Rattle.std.specs.Result.{result_and}
use Rattle.format.specs.RecordOver.{bytes_of, front_bytes}
use Rattle.format.specs.Usable.{Verdict, levels_test, front_usable, usable}
use Rattle.format.proofs.SoundLaws.{sound}
use Rattle.format.proofs.Verdicts.{front_then_levels}
use Rattle.format.proofs.record.Record.usable.Goals as goal
use Rattle.format.proofs.record.Record.usable.Goals.{After-front}

-- the front stands over the record's bytes
front : (c : After-front) → front_usable c.front.result.raster c.args.sbc (front_bytes c.front.result)
    ≡ front_usable c.args.self.now.raster c.args.sbc (bytes_of c.args.self.now)
front c = ap₂ (λ raster bytes. front_usable raster c.args.sbc bytes) c.front.ensures.at c.front.ensures.stands_over

pub returns-in_err-usable : goal.returns-in_err-usable
returns-in_err-usable c =
    let raster = c.args.self.now.raster in
    let bytes = bytes_of c.args.self.now in
    let levels = levels_test raster c.args.sbc c.args.top bytes in
    let p = err_from_is_err_and c.from_residual.result c.from_residual.ensures.1 in
    let all : c.from_residual.result ≡ usable raster c.args.sbc c.args.top bytes =
    p.1 ∙ ap Err p.2 ∙ ap (λ (v : Verdict). result_and v levels) (c.in_err-usable.ensures ∙ front (goal.at.returns-in_err-usable c).After-front)
    ∙ front_then_levels raster c.args.sbc c.args.top bytes in
    record { verdict = all; sound = λ ok. sound raster c.args.sbc c.args.top bytes (sym all ∙ ok) }

pub returns : goal.returns
returns c =
    let raster = c.args.self.now.raster in
    let bytes = bytes_of c.args.self.now in
    let levels = levels_test raster c.args.sbc c.args.top bytes in
    let all : c.levels_fit.result ≡ usable raster c.args.sbc c.args.top bytes =
    c.levels_fit.ensures ∙ ap (λ (v : Verdict). result_and v levels) (c.in_ok-usable.ensures ∙ front (goal.at.returns c).After-front)
    ∙ front_then_levels raster c.args.sbc c.args.top bytes in
    record { verdict = all; sound = λ ok. sound raster c.args.sbc c.args.top bytes (sym all ∙ ok) }
