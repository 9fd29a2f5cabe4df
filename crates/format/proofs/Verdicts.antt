-- What a test of one place answers, by the flag that says whether there is a fault.
use Rattle.std.proofs.Common.{◌≡◌, ℕ, ◌+◌, ◌-◌, ◌<◌, Bool, false, not, List, get_or, Ok, Err, sym, refl, ap, ◌∙◌, arith}
use Rattle.std.proofs.lemmas.Bool.{lt-ltb}
use Rattle.format.specs.Modes.{subsampled}
use Rattle.format.specs.Record.{head_in, word_in}
use Rattle.format.specs.RecordWriting.{no_word, in_range, range_test}
use Rattle.std.specs.Result.{result_and}
use Rattle.format.specs.Usable.{Verdict, refuse_if, mark_test, forced_test, words_test, fill_test, vectors_test, thinned, levels_test, front_usable, usable}
use Rattle.format.specs.declared.raster.Raster.{Raster}
use Rattle.format.specs.declared.refusal.Refusal.{Refusal}
use Rattle.format.specs.declared.refusal.Refusal.TheVariants.{VectorRange}
use Rattle.format.specs.declared.words.BlockWord.{BlockWord}
use Rattle.format.specs.declared.words.Head.{Head}

-- what passes where no fault is
pub passes : (fault : Bool) (refusal : Refusal) → fault ≡ false → refuse_if fault refusal ≡ Ok tt
passes fault refusal h = ap (λ b. refuse_if b refusal) h

pub thinned_past_burst : (raster : Raster) (sbc : Bool) (bytes : List ℕ) (block : ℕ) (head : Head) (word : BlockWord) (flag : Bool)
    → 1 < block → head ≡ head_in bytes → word ≡ word_in raster bytes block → flag ≡ subsampled sbc head word
    → flag ≡ thinned raster sbc bytes block
unfolding thinned
thinned_past_burst raster sbc bytes block head word flag past h w f = rw (f, h, w, lt-ltb 1 block past)

-- word i is that of block i + 2
pub range_verdict : (words : List BlockWord) (i : ℕ) (flag : Bool) → flag ≡ in_range (get_or words i no_word)
    → range_test words (2 + i) ≡ refuse_if (not flag) (VectorRange (2 + i))
unfolding range_test
range_verdict words i flag f =
    let same : 2 + i - 2 ≡ i = omega arith in
    ap (λ (k : ℕ). refuse_if (not (in_range (get_or words k no_word))) (VectorRange (2 + i))) same
    ∙ ap (λ (t : Bool). refuse_if (not t) (VectorRange (2 + i))) (sym f)

-- tests in order, whichever of them are taken together
and_other_again : (a b c : Verdict) → result_and (result_and a b) c ≡ result_and a (result_and b c)
and_other_again (Ok t) b c = refl
and_other_again (Err e) b c = refl

-- a record is usable where its front is and its levels are
pub front_then_levels : (raster : Raster) (sbc : Bool) (top : ℕ) (bytes : List ℕ)
    → result_and (front_usable raster sbc bytes) (levels_test raster sbc top bytes) ≡ usable raster sbc top bytes
front_then_levels raster sbc top bytes =
    let mark = mark_test bytes in
    let forced = forced_test bytes in
    let words = words_test raster sbc bytes in
    let fill = fill_test raster bytes in
    let vectors = vectors_test raster bytes in
    let levels = levels_test raster sbc top bytes in
    and_other_again mark (result_and forced (result_and words (result_and fill vectors))) levels
    ∙ ap (result_and mark) (and_other_again forced (result_and words (result_and fill vectors)) levels
    ∙ ap (result_and forced) (and_other_again words (result_and fill vectors) levels
    ∙ ap (result_and words) (and_other_again fill vectors levels)))
