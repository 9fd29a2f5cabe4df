use Rattle.std.proofs.Common.{◌≡◌, ℕ, List, reverse, replicate, ap, ◌∙◌}
use Rattle.delay.proofs.Laws.{reverse-replicate}
use Rattle.framelines.proofs.cells.Cells.cleared.Goals as goal

-- cells that hold one element hold it from either end
from_either_end : {X : Type 0} (xs : List X) (n reach : ℕ) (x : X) → xs ≡ replicate n x → n ≡ reach → reverse xs ≡ replicate reach x
from_either_end xs n reach x all e = ap reverse all ∙ reverse-replicate n x ∙ ap (λ k. replicate k x) e

pub returns : goal.returns
returns c =
    let picture = from_either_end _ _ _ _ (c.in_ok-vec.ensures.items_if_clones_equal (λ _ e. e)) c.picture_reach.ensures.value in
    let background = from_either_end _ _ _ _ (c.in_ok-vec-2.ensures.items_if_clones_equal (λ _ e. e)) c.picture_reach-2.ensures.value in
    let line = from_either_end _ _ _ _ (c.in_ok-vec-3.ensures.items_if_clones_equal (λ _ e. e)) c.line_reach.ensures.value in
    let marks = from_either_end _ _ _ _ (c.in_ok-vec-4.ensures.items_if_clones_equal (λ _ e. e)) c.mark_reach.ensures.value in
    rw (picture, background, line, marks)
