use Rattle.std.proofs.Common.{◌≡◌, ◌-◌, Some, sym, ap, ◌∙◌, arith}
use Rattle.delay.proofs.Turning.{place_near, place_far}
use Rattle.delay.proofs.places.place_oldest.Goals as goal

-- all cells but those before `next` are older
pub returns-then-next-len-clause-found : goal.returns-then-next-len-clause-found
returns-then-next-len-clause-found c =
    let next = c.args.next in
    let len = c.args.len in
    let here : len - (len - next) ≡ next = omega arith in
    sym (place_far next len len (omega arith) (omega arith) ∙ ap Some here)

pub returns-else-next-len-clause-found : goal.returns-else-next-len-clause-found
returns-else-next-len-clause-found c =
    let next = c.args.next in
    let len = c.args.len in
    let first : next - len ≡ 0 = omega arith in
    sym (place_near next len len (omega arith) (omega arith) (omega arith) ∙ ap Some first)
