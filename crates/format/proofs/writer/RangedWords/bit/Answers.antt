use Rattle.std.proofs.Common.{◌≡◌, ℕ, ◌-◌, ◌/◌, ◌%◌, ◌<◌, ◌≤◌, Bool, false, Option, None, Some, List, Bor, nat_lt, length, get_or, sym, ap, ◌∙◌, rules}
use Rattle.std.proofs.lemmas.List.{get_or_default}
use Rattle.std.specs.Option.{MatchOption, IfSome, is_some}
use Rattle.format.specs.Bits.{bit_at}
use Rattle.format.specs.RecordWriting.{word_number, no_word, words_bit}
use Rattle.format.specs.declared.words.BlockWord.{BlockWord}
use Rattle.format.proofs.RecordLaws.{words_bit_past}
use Rattle.format.proofs.writer.RangedWords.bit.Goals as goal

-- a bit of the word that is found, and 0 where none is
bit_found : (words : List BlockWord) (k : ℕ) (found : Option (Bor BlockWord)) (r : Bool) (Called : Bor BlockWord → Type 0)
    → is_some found ≡ nat_lt (k / 10) (length words)
    → IfSome found (λ x. x.now ≡ get_or words (k / 10) x.now)
    → MatchOption found (r ≡ false) Called
    → ((x : Bor BlockWord) → Called x → r ≡ bit_at (9 - k % 10) (word_number x.now))
    → r ≡ words_bit words k
unfolding words_bit
bit_found words k None r Called inside here is answers =
    let past : length words ≤ k / 10 = search rules in
    is ∙ sym (words_bit_past words k past)
bit_found words k (Some x) r Called inside here is answers =
    let below : k / 10 < length words = search rules in
    let same : get_or words (k / 10) x.now ≡ get_or words (k / 10) no_word = get_or_default words (k / 10) x.now no_word below in
    answers x is ∙ ap (λ word. bit_at (9 - k % 10) (word_number word)) (here ∙ same)

pub returns : goal.returns
returns c = bit_found c.args.self.now.words.now c.args.k c.get.result c.is_some_and.result _ c.get.ensures.lookup.0 c.get.ensures.lookup.1 c.is_some_and.ensures (λ x called. search rules)
