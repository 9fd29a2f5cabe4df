use Rattle.std.proofs.Common.{◌≡◌, ℕ, ◌<◌, get_or}
use Rattle.format.specs.RecordWriting.{words_byte}
use Rattle.format.proofs.writer.RangedWords.write.Given as goal

-- each byte so far is written
abbrev pub invariant-loop-i : goal.invariant-loop-i
invariant-loop-i l = (k : ℕ) → k < l.i → get_or l.byte-items k 0 ≡ words_byte l.self.words.now k
