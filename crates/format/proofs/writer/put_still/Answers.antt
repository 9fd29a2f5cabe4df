use Rattle.std.proofs.Common.{◌≡◌, ◌-◌, ◌∷◌, map, length, take, sym, ap, ◌∙◌, ap₂, subst, arith}
use Rattle.std.specs.List.{range_with_len}
use Rattle.format.specs.Front.{still, stilled}
use Rattle.format.specs.Raster.{blocks, word_bytes}
use Rattle.format.specs.RecordOver.{front_bytes}
use Rattle.format.specs.RecordWriting.{words_byte, Ranged}
use Rattle.format.specs.Survival.{words_read}
use Rattle.format.proofs.FrontLaws.{still_ranged}
use Rattle.format.proofs.writer.put_still.Goals as goal
use Rattle.format.proofs.writer.put_still.Goals.{After-blocks-count}

-- the words that are written
written : (c : After-blocks-count) → take c.blocks-count.result c.still_words-words.result
    ≡ map still (words_read c.args.front.raster (front_bytes c.args.front))
written c =
    ap (λ n. take n c.still_words-words.result) (c.blocks-count.ensures.value ∙ ap blocks c.raster.ensures)
    ∙ c.still_words-words.ensures

pub invariant_of-words : goal.invariant_of-words
invariant_of-words c =
    record { ranged = subst Ranged (sym (written (goal.at.invariant_of-words c).After-blocks-count)) (still_ranged (words_read c.args.front.raster (front_bytes c.args.front))) }

pub returns : goal.returns
unfolding stilled
returns c =
    let n : length c.args.buffer.now - 1 ≡ word_bytes c.args.front.raster = omega arith in
    c.write.ensures
    ∙ ap₂ (λ words n. c.head_byte.result ∷ map (words_byte words) (range_with_len 0 n)) (written (goal.at.returns c).After-blocks-count) n
    ∙ ap (λ b. b ∷ map (words_byte (map still (words_read c.args.front.raster (front_bytes c.args.front)))) (range_with_len 0 (word_bytes c.args.front.raster))) c.head_byte.ensures
