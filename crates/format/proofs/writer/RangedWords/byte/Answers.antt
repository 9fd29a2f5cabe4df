use Rattle.std.proofs.Common.{◌*◌, false, get_or, ◌∙◌, rules}
use Rattle.format.specs.RecordWriting.{words_bit, words_byte}
use Rattle.format.proofs.Packed.{packed_same}
use Rattle.format.proofs.writer.RangedWords.byte.Goals as goal

pub returns : goal.returns
unfolding words_byte
returns c =
    c.byte_of.ensures
    ∙ packed_same (λ k. get_or c.from_fn.result k false) (words_bit c.args.self.now.words.now) 0 (8 * c.args.i) 8
    (λ j below. let called = c.from_fn.ensures.items.at j false below in search rules)
