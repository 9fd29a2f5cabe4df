use Rattle.std.proofs.Common.{◌≡◌, ℕ, ◌+◌, ◌-◌}
use Rattle.format.specs.Usable.{Verdict, in_order, AnswersAs}
use Rattle.format.proofs.order.in_order.Given as goal

-- the places that are left give the answer
abbrev pub invariant-loop-place : goal.invariant-loop-place
invariant-loop-place g l =
    (answer : ℕ → Verdict) → AnswersAs (goal.F-post g l.test) l.start l.count answer
    → in_order answer l.place (l.start + l.count - l.place) ≡ in_order answer l.start l.count
