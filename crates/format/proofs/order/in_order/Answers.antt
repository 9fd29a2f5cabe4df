use Rattle.std.proofs.Common.{◌≡◌, ◌+◌, Ok, Err, sym, ◌∙◌, arith}
use Rattle.std.proofs.lemmas.Result.{err_from_is_err_and}
use Rattle.format.proofs.InOrder.{in_order_here, in_order_past, in_order_done}
use Rattle.format.proofs.order.in_order.Goals as goal

pub returns-in_err-test : goal.returns-in_err-test
returns-in_err-test g c = λ answer known.
    let place = c.loop-place.place in
    let p = err_from_is_err_and c.from_residual.result c.from_residual.ensures.1 in
    let here : answer place ≡ Err c.in_err-test.field-0.0 = sym (known place (Err c.in_err-test.field-0.0) (omega arith) (omega arith) c.in_err-test.ensures) in
    rw (p.1, p.2)
    (sym (in_order_here answer place (c.args.start + c.args.count) _ (omega arith) here) ∙ c.loop-place.invariant answer known)

pub loop-place-preserved : goal.loop-place-preserved
loop-place-preserved g c = λ answer known.
    let place = c.loop-place.place in
    let here : answer place ≡ Ok tt = sym (known place (Ok tt) (omega arith) (omega arith) c.in_ok-test.ensures) in
    sym (in_order_past answer place (c.args.start + c.args.count) (omega arith) here) ∙ c.loop-place.invariant answer known

pub returns : goal.returns
returns g c = λ answer known.
    sym (in_order_done answer c.loop-place.place (c.args.start + c.args.count) (omega arith)) ∙ c.loop-place.invariant answer known
