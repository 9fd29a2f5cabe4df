use Rattle.std.proofs.Common.{◌≡◌, ℕ, ◌<◌, get_or}
use Rattle.format.specs.RecordOver.{front_bytes}
use Rattle.format.specs.RecordWriting.{no_word}
use Rattle.format.proofs.FrontLaws.{still_at}
use Rattle.format.proofs.writer.still_words.Given as goal

-- each word so far has its vector 0
abbrev pub invariant-loop-i : goal.invariant-loop-i
invariant-loop-i l = (k : ℕ) → k < l.i → get_or l.word-items k no_word ≡ still_at l.front.raster (front_bytes l.front) k
