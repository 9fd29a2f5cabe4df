-- Reading and writing a record undo each other.
use Rattle.std.proofs.Common.{◌≡◌, ℕ, ◌+◌, ◌-◌, ◌*◌, ◌/◌, ◌%◌, ◌<◌, ◌≤◌, true, List, ◌∷◌, ◌++◌, map, length, get_or, drop, ℤ, pos, sym, refl, ap, ◌∙◌, ⊎_elim, arith}
use Rattle.std.specs.List.{range_with_len}
use Rattle.std.proofs.lemmas.Nat.{pow_pos, mul-add-lt, div-add-mod', mod_below}
use Rattle.std.proofs.lemmas.List.FromFn.{length-map-range_with_len, get_or-map-range_with_len, fill_by_all}
use Rattle.std.proofs.lemmas.List.{length-append, length-map, length-drop, length-take-le, take_at, take-append-drop, get_or-append_right, get_or-map, get_or-drop, get_or-take, drop_more, ext_get_or}
use Rattle.std.proofs.lemmas.Bool.{eqb-true, eq-eqb, cases_lt}
use Rattle.format.specs.Bits.{bit_at, stream_bit, field_of, level_of}
use Rattle.format.specs.Packing.{Bytes, twos_field}
use Rattle.format.specs.Raster.{blocks, word_bytes, line_levels, record_length}
use Rattle.format.specs.Record.{is_whole, head_in, head_marked, words_in, word_of, word_in, has_word, has_line, level_in}
use Rattle.format.specs.RecordWriting.{head_byte, word_number, no_word, words_bit, words_byte, record_bytes, Ranged}
use Rattle.format.specs.Sound.{has_level}
use Rattle.format.specs.Survival.{LevelBytes, Holds, RecordsReadBack, words_read, level_read, levels_read, RecordBytesWrittenBack}
use Rattle.format.specs.Usable.{fill_in}
use Rattle.format.specs.declared.raster.Raster.{Raster}
use Rattle.format.specs.declared.words.BlockWord.{BlockWord}
use Rattle.format.specs.declared.words.Head.{Head}
use Rattle.format.proofs.Packed.{bit_packed, packed_bits, packed_zero, bit_zero, bit_of_byte}
use Rattle.format.proofs.Fields.{field_packed}
use Rattle.format.proofs.RasterLaws.{record_length_is, width_least}
use Rattle.format.proofs.RecordLaws.{word_bounds, level_bounds, word_again, number_most, word_back, words_bit_past, words_bit_at, bytes_bit, level_place, head_back, head_marked_lem, head_again}
use Rattle.format.proofs.Twos.{twos_back, twos_again}

-- the words are packed in their bytes, and fill the last one up
module _ (words : List BlockWord) (n : ℕ) (room : 10 * length words ≤ 8 * n) (ranged : Ranged words) where
  abbrev laid : List ℕ
  laid = map (words_byte words) (range_with_len 0 n)

  pub word_laid : (i : ℕ) → i < length words → word_of laid (10 * i) ≡ get_or words i no_word
  word_laid i h =
      let word = get_or words i no_word in
      word_back laid (10 * i) word (ranged i)
      (field_packed laid (10 * i) 10
      ∙ packed_bits (stream_bit laid) (10 * i) 10 (word_number word) (number_most word (ranged i))
      (λ j below. bytes_bit words n (10 * i + j) (omega arith) ∙ words_bit_at words i j below))

  pub fill_laid : field_of laid (10 * length words) (8 * n - 10 * length words) ≡ 0
  fill_laid =
      let start = 10 * length words in
      let count = 8 * n - start in
      field_packed laid start count
      ∙ packed_bits (stream_bit laid) start count 0 (pow_pos count)
      (λ j below. bytes_bit words n (start + j) (omega arith) ∙ words_bit_past words (start + j) (omega arith) ∙ sym (bit_zero (count - 1 - j)))

module _ (raster : Raster) (head : Head) (words : List BlockWord) (levels : List ℤ) (count : length words ≡ blocks raster)
    (ranged : Ranged words) (long : length levels ≡ 8 * line_levels raster) (fit : LevelBytes levels) where
  abbrev written : List ℕ
  written = record_bytes raster head words levels

  abbrev front : List ℕ
  front = map (words_byte words) (range_with_len 0 (word_bytes raster))

  front_long : length front ≡ word_bytes raster
  front_long = length-map-range_with_len (words_byte words) 0 (word_bytes raster)

  whole_written : is_whole raster written ≡ true
  unfolding record_bytes
  whole_written =
      eq-eqb (length written) (record_length raster)
      (omega (arith, record_length_is raster, front_long, length-map levels (twos_field 128), length-append front (map (twos_field 128) levels)))

  words_written : words_in raster written ≡ front
  unfolding record_bytes
  words_written =
      let n : length front ≡ 1 + word_bytes raster - 1 = omega (arith, front_long) in
      take_at front (map (twos_field 128) levels) (1 + word_bytes raster - 1) n

  head_written : head_in written ≡ head
  unfolding record_bytes head_in
  head_written = head_back head

  marked_written : head_marked written ≡ true
  unfolding record_bytes
  marked_written = head_marked_lem head

  room : 10 * length words ≤ 8 * word_bytes raster
  room = omega arith

  word_written : (block : ℕ) → has_word raster block ≡ true → word_in raster written block ≡ get_or words (block - 2) no_word
  unfolding word_in
  word_written block has =
      let within = word_bounds raster block has in
      ap (λ (xs : List ℕ). word_of xs (10 * (block - 2))) words_written
      ∙ word_laid words (word_bytes raster) room ranged (block - 2) (omega arith)

  fill_written : fill_in raster written ≡ 0
  fill_written =
      ap (λ (xs : List ℕ). field_of xs (10 * blocks raster) (8 * word_bytes raster - 10 * blocks raster)) words_written
      ∙ ap (λ (k : ℕ). field_of front (10 * k) (8 * word_bytes raster - 10 * k)) (sym count)
      ∙ fill_laid words (word_bytes raster) room ranged

  behind : (k : ℕ) → k < length levels → get_or written (1 + word_bytes raster + k) 0 ≡ twos_field 128 (get_or levels k (pos 0))
  unfolding record_bytes
  behind k h =
      let n : length (head_byte head ∷ front) ≡ 1 + word_bytes raster = omega (arith, front_long) in
      let place : 1 + word_bytes raster + k - (1 + word_bytes raster) ≡ k = omega arith in
      get_or-append_right (head_byte head ∷ front) (map (twos_field 128) levels) (1 + word_bytes raster) (1 + word_bytes raster + k) 0 n (omega arith)
      ∙ ap (λ (i : ℕ). get_or (map (twos_field 128) levels) i 0) place
      ∙ get_or-map (twos_field 128) levels k (pos 0) 0 h

  level_written : (line pel : ℕ) → has_line line ≡ true → has_level raster pel ≡ true
      → level_in raster written line pel ≡ get_or levels ((line - 1) * line_levels raster + (pel - 4)) (pos 0)
  level_written line pel has has' =
      let inside = level_bounds raster line pel has has' in
      let k = (line - 1) * line_levels raster + (pel - 4) in
      let within = mul-add-lt (line - 1) (line_levels raster) (pel - 4) 8 (omega arith) (omega arith) in
      level_place raster written line pel (omega arith) (omega arith)
      ∙ ap level_of (behind k (omega arith))
      ∙ twos_back 128 (get_or levels k (pos 0)) (fit k)

  holds : Holds raster head words levels written
  holds = record {
    whole = whole_written;
    marked = marked_written;
    filled = fill_written;
    same_head = head_written;
    same_word = word_written;
    same_level = level_written;
  }

pub records_read_back : RecordsReadBack
records_read_back raster head words levels count ranged long fit = holds raster head words levels count ranged long fit

module _ (raster : Raster) (bytes : List ℕ) (low : Bytes bytes) (whole : is_whole raster bytes ≡ true)
    (marked : head_marked bytes ≡ true) (filled : fill_in raster bytes ≡ 0) where
  abbrev stream : List ℕ
  stream = words_in raster bytes

  abbrev n : ℕ
  n = word_bytes raster

  as_long : length bytes ≡ 1 + word_bytes raster + 8 * line_levels raster
  as_long = eqb-true (length bytes) (record_length raster) whole ∙ record_length_is raster

  -- the words that are read have the bits of the stream
  bits_again : (k : ℕ) → k < 8 * n → words_bit (words_read raster bytes) k ≡ stream_bit stream k
  unfolding word_in
  bits_again k h =
      let ws = words_read raster bytes in
      let count = length-map-range_with_len (word_in raster bytes) 2 (blocks raster) in
      let i = k / 10 in
      let j = k % 10 in
      let place : 10 * i + j ≡ k = omega arith in
      ⊎_elim
      (λ (within : i < blocks raster).
      let start : 10 * (2 + i - 2) ≡ 10 * i = omega arith in
      let word = get_or-map-range_with_len (word_in raster bytes) 2 (blocks raster) i (2 + i) no_word within refl
      ∙ ap (word_of stream) start in
      ap (words_bit ws) (sym place) ∙ words_bit_at ws i j (omega arith)
      ∙ ap (λ (w : BlockWord). bit_at (9 - j) (word_number w)) word
      ∙ ap (bit_at (9 - j)) (word_again stream (10 * i) ∙ field_packed stream (10 * i) 10)
      ∙ bit_packed (stream_bit stream) (10 * i) 10 j (omega arith)
      ∙ ap (stream_bit stream) place)
      (λ (past : blocks raster ≤ i).
      let first = 10 * blocks raster in
      let at : first + (k - first) ≡ k = omega arith in
      let none = sym (field_packed stream first (8 * n - first)) ∙ filled in
      words_bit_past ws k (omega arith)
      ∙ sym (packed_zero (stream_bit stream) first (8 * n - first) (k - first) none (omega arith))
      ∙ ap (stream_bit stream) at)
      (cases_lt i (blocks raster))

  stream_long : length stream ≡ n
  stream_long =
      let left = length-drop 1 bytes in
      let within : 1 + n - 1 ≤ length (drop 1 bytes) = omega (arith, as_long) in
      let same : 1 + n - 1 ≡ n = omega arith in
      length-take-le (1 + n - 1) (drop 1 bytes) within ∙ same

  stream_low : (i : ℕ) → i < n → get_or stream i 0 < 256
  stream_low i h =
      let e = get_or-take (1 + n - 1) (drop 1 bytes) i 0 (omega arith) ∙ get_or-drop 1 bytes i 0 in
      omega (arith, low (1 + i))

  words_again : map (words_byte (words_read raster bytes)) (range_with_len 0 n) ≡ stream
  unfolding words_byte
  words_again =
      let ws = words_read raster bytes in
      sym (fill_by_all (words_byte ws) stream n 0 stream_long
      (λ i h. sym (packed_bits (words_bit ws) (8 * i) 8 (get_or stream i 0) (stream_low i h)
      (λ j below. bits_again (8 * i + j) (omega arith) ∙ bit_of_byte stream i j below))))

  level_again : (k : ℕ) → k < 8 * line_levels raster → twos_field 128 (level_read raster bytes k) ≡ get_or bytes (1 + n + k) 0
  level_again k h =
      let w = line_levels raster in
      let least = width_least raster in
      let some : 0 < w = omega arith in
      let r = mod_below k w some in
      let whole-k = div-add-mod' k w in
      let line : 1 + k / w - 1 ≡ k / w = omega arith in
      let row = ap (λ (q : ℕ). q * w) line in
      let place : 1 + n + ((1 + k / w - 1) * w + (4 + k % w - 4)) ≡ 1 + n + k = omega arith in
      let byte = level_place raster bytes (1 + k / w) (4 + k % w) (omega arith) (omega arith)
      ∙ ap (λ (i : ℕ). level_of (get_or bytes i 0)) place in
      ap (twos_field 128) byte ∙ twos_again 128 (get_or bytes (1 + n + k) 0) (low (1 + n + k))

  levels_again : map (twos_field 128) (levels_read raster bytes) ≡ drop (1 + n - 1) (drop 1 bytes)
  levels_again =
      let levels = levels_read raster bytes in
      let count = length-map-range_with_len (level_read raster bytes) 0 (8 * line_levels raster) in
      let same = length-map levels (twos_field 128) in
      let left = length-drop (1 + n - 1) (drop 1 bytes) in
      let most = length-drop 1 bytes in
      ext_get_or 0 (map (twos_field 128) levels) (drop (1 + n - 1) (drop 1 bytes)) (omega (arith, as_long))
      (λ k h.
      let within : k < 8 * line_levels raster = omega arith in
      let at : 0 + k ≡ k = omega arith in
      let place : 1 + n + k ≡ 1 + (1 + n - 1 + k) = omega arith in
      get_or-map (twos_field 128) levels k (pos 0) 0 (omega arith)
      ∙ ap (twos_field 128) (get_or-map-range_with_len (level_read raster bytes) 0 (8 * line_levels raster) k k (pos 0) within at)
      ∙ level_again k within
      ∙ ap (λ (i : ℕ). get_or bytes i 0) place
      ∙ sym (get_or-drop (1 + n - 1) (drop 1 bytes) k 0 ∙ get_or-drop 1 bytes (1 + n - 1 + k) 0))

  again : record_bytes raster (head_in bytes) (words_read raster bytes) (levels_read raster bytes) ≡ bytes
  unfolding record_bytes head_in
  again =
      let first : 0 < length bytes = omega (arith, as_long) in
      let one : 0 + 1 ≡ 1 = refl in
      let words = map (words_byte (words_read raster bytes)) (range_with_len 0 n) in
      let levels = map (twos_field 128) (levels_read raster bytes) in
      ap (λ (b : ℕ). b ∷ (words ++ levels)) (head_again (get_or bytes 0 0) (low 0) marked)
      ∙ ap (λ (xs : List ℕ). get_or bytes 0 0 ∷ (xs ++ levels)) words_again
      ∙ ap (λ (xs : List ℕ). get_or bytes 0 0 ∷ (stream ++ xs)) levels_again
      ∙ ap (λ (xs : List ℕ). get_or bytes 0 0 ∷ xs) (take-append-drop (1 + n - 1) (drop 1 bytes))
      ∙ sym (drop_more bytes 0 0 first)

pub record_bytes_written_back : RecordBytesWrittenBack
record_bytes_written_back raster bytes low whole marked filled = again raster bytes low whole marked filled
