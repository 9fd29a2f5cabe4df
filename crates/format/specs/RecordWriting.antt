-- The bytes of a record, and when one is refused.
use Rattle.std.specs.Prelude.{◌≡◌, ℕ, ◌+◌, ◌-◌, ◌*◌, ◌/◌, ◌%◌, Bool, true, false, not, ◌&&◌, List, [], ◌∷◌, ◌++◌, map, length, ℤ, pos, Ok, Err, ◌==◌, nat_le, slice_index_or, unsigned_abs}
use Rattle.std.specs.List.{range_with_len}
use Rattle.std.specs.Result.{result_and}
use Rattle.format.specs.Bits.{bit_at, digit, packed}
use Rattle.format.specs.Packing.{byte_of, twos_field}
use Rattle.format.specs.Raster.{blocks, word_bytes, line_levels, record_length}
use Rattle.format.specs.Usable.{Verdict, refuse_if, in_order}
use Rattle.format.specs.declared.raster.Raster.{Raster}
use Rattle.format.specs.declared.refusal.Refusal.TheVariants.{WrongLength, VectorRange}
use Rattle.format.specs.declared.words.BlockWord.{BlockWord}
use Rattle.format.specs.declared.words.Head.{Head}

-- the head byte is QC1 QC2 IFM FRP 1 1 1 1
abbrev pub head_byte : Head → ℕ
head_byte head = byte_of (head.qc1 ∷ head.qc2 ∷ head.ifm ∷ head.frp ∷ true ∷ true ∷ true ∷ true ∷ [])

-- a block word is a number of ten bits: S, vx in five bits and vy in four, in two's complement
abbrev pub word_number : BlockWord → ℕ
word_number word = 512 * digit word.s + 16 * twos_field 16 word.vx + twos_field 8 word.vy

-- the word whose bits are all 0
abbrev pub no_word : BlockWord
no_word = record { s = false; vx = pos 0; vy = pos 0 }

-- bit k of the words one after another, each with its most significant bit first; after the last word it is 0
unfoldable pub words_bit : List BlockWord → ℕ → Bool
words_bit words k = bit_at (9 - k % 10) (word_number (slice_index_or words (k / 10) no_word))

-- byte i of the words
unfoldable pub words_byte : List BlockWord → ℕ → ℕ
words_byte words i = packed (words_bit words) (8 * i) 8

-- the head, the words to the end of their last byte, and the levels, line after line
unfoldable pub record_bytes : Raster → Head → List BlockWord → List ℤ → List ℕ
record_bytes raster head words levels =
    head_byte head ∷ (map (words_byte words) (range_with_len 0 (word_bytes raster)) ++ map (twos_field 128) levels)

-- vectors lie between −15 and 15, and −7 and 7
abbrev pub in_range : BlockWord → Bool
in_range word = nat_le (unsigned_abs word.vx) 15 && nat_le (unsigned_abs word.vy) 7

abbrev pub Ranged : List BlockWord → Type 0
Ranged words = (i : ℕ) → in_range (slice_index_or words i no_word) ≡ true

-- another count than the layout's is refused
abbrev pub count_test : ℕ → ℕ → Verdict
count_test count given = refuse_if (not (given == count)) (WrongLength given)

-- the words are those of block 2 on
unfoldable pub range_test : List BlockWord → ℕ → Verdict
range_test words block = refuse_if (not (in_range (slice_index_or words (block - 2) no_word))) (VectorRange block)

-- the words, the levels and the buffer are counted, and then the vectors looked at: the first refusal counts
abbrev pub writable : Raster → List BlockWord → List ℤ → List ℕ → Verdict
writable raster words levels buffer =
    result_and (count_test (blocks raster) (length words))
    (result_and (count_test (8 * line_levels raster) (length levels))
    (result_and (count_test (record_length raster) (length buffer))
    (in_order (range_test words) 2 (length words))))

-- the buffer holds the record once it is written, and a refusal leaves it as it was
abbrev pub held_after : Verdict → List ℕ → List ℕ → List ℕ
held_after (Ok done) written before = written
held_after (Err refusal) written before = before
