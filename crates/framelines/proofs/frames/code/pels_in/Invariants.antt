use Rattle.std.proofs.Common.{◌≡◌, ℕ, ◌<◌, map, length, get_or, pos}
use Rattle.format.specs.Bits.{level_of}
use Rattle.framelines.proofs.frames.code.pels_in.Given as goal

-- each pel so far is read
abbrev pub invariant-loop-i : goal.invariant-loop-i
invariant-loop-i l = (length l.pels ≡ 3640) × ((k : ℕ) → k < l.i → get_or l.pels k (pos 0) ≡ get_or (map level_of l.bytes) k (pos 0))
