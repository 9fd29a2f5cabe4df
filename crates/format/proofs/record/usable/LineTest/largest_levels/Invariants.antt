use Rattle.std.proofs.Common.{◌≡◌, ℕ, ◌+◌, ◌-◌, ◌<◌, cond, get_or}
use Rattle.format.specs.Modes.{block_of}
use Rattle.format.specs.RecordOver.{bytes_of}
use Rattle.format.specs.Usable.{thinned, omitted}
use Rattle.format.proofs.record.usable.LineTest.largest_levels.Given as goal

-- the sizes so far stand, and the flag is that of the block of the pel before
abbrev pub invariant-loop-i : goal.invariant-loop-i
invariant-loop-i l =
    let bytes = bytes_of l.self.record in
    (l.thinned ≡ thinned l.self.record.raster l.self.sbc bytes (block_of (l.i + 4 - 1)))
    × ((k : ℕ) → k < l.i → get_or l.size-items k 0 ≡ cond (omitted l.self.record.raster l.self.sbc bytes l.self.line (k + 4)) 0 l.self.top)
