-- What a store of cells holds that is written round and round: the cell at `next` is the oldest.
use Rattle.std.specs.Prelude.{ℕ, List, ◌++◌, reverse, take, drop}

-- the cells, the newest first: those before `next` were written last, and before them those from `next` on
abbrev pub rotated : {X : Type 0} → ℕ → List X → List X
rotated next cells = reverse (take next cells) ++ reverse (drop next cells)
