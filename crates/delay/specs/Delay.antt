-- What a delay memory answers and what it holds next, over the list of its elements, the newest first.
use Rattle.std.specs.Prelude.{ℕ, zero, suc, List, ◌∷◌, length, take, None, Option}
use Rattle.std.specs.List.{slice_get}

module _ {X : Type 0} where
  -- the element n places back: the newest is 1 back, and none is 0 back or beyond the reach
  abbrev pub look : List X → ℕ → Option X
  look xs zero = None
  look xs (suc n) = slice_get xs n

  -- x comes first, and the oldest is dropped
  abbrev pub entered : X → List X → List X
  entered x xs = take (length xs) (x ∷ xs)
