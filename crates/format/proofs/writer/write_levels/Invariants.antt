use Rattle.std.proofs.Common.{◌≡◌, ℕ, ◌<◌, map, get_or}
use Rattle.format.specs.Packing.{twos_field}
use Rattle.format.proofs.writer.write_levels.Given as goal

-- each level so far is written
abbrev pub invariant-loop-i : goal.invariant-loop-i
invariant-loop-i l = (k : ℕ) → k < l.i → get_or l.bytes k 0 ≡ get_or (map (twos_field 128) l.levels) k 0
