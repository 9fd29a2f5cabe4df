-- The words of a front with every vector 0.
use Rattle.std.proofs.Common.{◌≡◌, ℕ, ◌+◌, ◌<◌, ◌≤◌, List, map, length, get_or, take, set, sym, refl, ap, ◌∙◌, ⊎_elim, arith}
use Rattle.std.proofs.lemmas.List.FromFn.{length-map-range_with_len, get_or-map-range_with_len}
use Rattle.std.proofs.lemmas.List.Edits.{fill_by_more}
use Rattle.std.proofs.lemmas.List.{length-map, length-take-le, get_or-map, get_or_past, get_or-take, take_all, ext_get_or}
use Rattle.std.proofs.lemmas.Bool.{cases_lt}
use Rattle.format.specs.Front.{still}
use Rattle.format.specs.Raster.{blocks}
use Rattle.format.specs.Record.{word_in}
use Rattle.format.specs.RecordWriting.{no_word, in_range, Ranged}
use Rattle.format.specs.Survival.{words_read}
use Rattle.format.specs.declared.raster.Raster.{Raster}
use Rattle.format.specs.declared.words.BlockWord.{BlockWord}

-- a vector 0 lies in range
pub still_ranged : (words : List BlockWord) → Ranged (map still words)
still_ranged words i =
    let long = length-map words still in
    ⊎_elim (λ (within : i < length words). ap in_range (get_or-map still words i no_word no_word within))
    (λ (past : length words ≤ i). ap in_range (get_or_past (map still words) i no_word (omega arith)))
    (cases_lt i (length words))

module _ (raster : Raster) (bytes : List ℕ) where
  -- the word of place i, with its vector 0
  abbrev pub still_at : ℕ → BlockWord
  still_at i = still (word_in raster bytes (2 + i))

  -- one word more
  pub still_more : (xs : List BlockWord) (i : ℕ) (x : BlockWord) → i < length xs → x ≡ still_at i
      → ((k : ℕ) → k < i → get_or xs k no_word ≡ still_at k) → (k : ℕ) → k < i + 1 → get_or (set xs i x) k no_word ≡ still_at k
  still_more xs i x h e before k l = ap (λ y. get_or (set xs i y) k no_word) e ∙ fill_by_more still_at xs i no_word h before k l

  -- all of them
  pub still_all : (xs : List BlockWord) → blocks raster ≤ length xs → ((k : ℕ) → k < blocks raster → get_or xs k no_word ≡ still_at k)
      → take (blocks raster) xs ≡ map still (words_read raster bytes)
  still_all xs room each =
      let n = blocks raster in
      let read = words_read raster bytes in
      let count = length-map-range_with_len (word_in raster bytes) 2 n in
      let long = length-map read still in
      let part = length-take-le n xs room in
      ext_get_or no_word (take n xs) (map still read) (omega arith)
      (λ i h.
      let l : i < n = omega arith in
      let within : i < length read = omega arith in
      get_or-take n xs i no_word l ∙ each i l
      ∙ sym (get_or-map still read i no_word no_word within ∙ ap still (get_or-map-range_with_len (word_in raster bytes) 2 n i (2 + i) no_word l refl)))

  -- and so in a list of just as many
  pub still_exactly : (xs : List BlockWord) → length xs ≡ blocks raster → ((k : ℕ) → k < blocks raster → get_or xs k no_word ≡ still_at k)
      → xs ≡ map still (words_read raster bytes)
  still_exactly xs long each = sym (take_all (blocks raster) xs (omega arith)) ∙ still_all xs (omega arith) each
