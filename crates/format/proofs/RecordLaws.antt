-- The words, the head and the levels in the bytes of a record.
use Rattle.std.proofs.Common.{◌≡◌, ℕ, ◌+◌, ◌-◌, ◌*◌, ◌/◌, ◌%◌, ◌<◌, ◌≤◌, Bool, true, false, eqb, leb, List, [], ◌∷◌, map, length, get_or, ℤ, nat_abs, ap, ◌∙◌, arith, lit<}
use Rattle.std.specs.List.{range_with_len}
use Rattle.std.proofs.lemmas.List.FromFn.{get_or-map-range_with_len}
use Rattle.std.proofs.lemmas.List.Edits.{get_or-between}
use Rattle.std.proofs.lemmas.List.{get_or_past}
use Rattle.std.proofs.lemmas.Bool.{and_parts, leb-true, eqb-true, eq-eqb}
use Rattle.format.specs.Bits.{bit_at, stream_bit, digit, packed, field_of, twos_complement, level_of}
use Rattle.format.specs.Packing.{byte_of, twos_field}
use Rattle.format.specs.Raster.{blocks, width, word_bytes, line_levels}
use Rattle.format.specs.Record.{has_word, has_line, head_of, word_of, line_start, line_in, level_in}
use Rattle.format.specs.RecordWriting.{head_byte, word_number, no_word, words_bit, words_byte, in_range}
use Rattle.format.specs.Sound.{has_level}
use Rattle.format.specs.declared.raster.Raster.{Raster}
use Rattle.format.specs.declared.words.BlockWord.{BlockWord}
use Rattle.format.specs.declared.words.Head.{Head}
use Rattle.format.proofs.Fields.{field_packed, field_below}
use Rattle.format.proofs.Packed.{digit_most, bit_packed, packed_split, packed_none, packed_more, bit_zero, bit_byte, byte_bits, digit_same}
use Rattle.format.proofs.RasterLaws.{width_least}
use Rattle.format.proofs.Twos.{twos_back, twos_again, in_field_lem, field_most}

-- the blocks that have a word
pub word_bounds : (raster : Raster) (block : ℕ) → has_word raster block ≡ true → (2 ≤ block) × (block < 2 + blocks raster)
word_bounds raster block has =
    let within = and_parts (leb 2 block) (leb block (blocks raster + 1)) has in
    let high = leb-true block (blocks raster + 1) within.1 in
    (leb-true 2 block within.0, omega arith)

-- the lines and the pels that have a level
pub level_bounds : (raster : Raster) (line pel : ℕ) → has_line line ≡ true → has_level raster pel ≡ true
    → (1 ≤ line) × (line ≤ 8) × (4 ≤ pel) × (pel ≤ width raster)
level_bounds raster line pel has has' =
    let lines = and_parts (leb 1 line) (leb line 8) has in
    let pels = and_parts (leb 4 pel) (leb pel (width raster)) has' in
    (leb-true 1 line lines.0, leb-true line 8 lines.1, leb-true 4 pel pels.0, leb-true pel (width raster) pels.1)

-- the ten bits of a word by its three parts
pub ten_bits : (words : List ℕ) (start : ℕ)
    → field_of words start 10 ≡ 512 * digit (stream_bit words start) + 16 * field_of words (start + 1) 5 + field_of words (start + 6) 4
ten_bits words start =
    let bit = stream_bit words in
    let whole = packed_split bit start 6 4 in
    let first = packed_split bit start 1 5 in
    let one = packed_more bit start 0 in
    let none = packed_none bit start in
    let place : start + 0 ≡ start = omega arith in
    let s = ap (λ (k : ℕ). digit (bit k)) place in
    omega (arith, field_packed words start 10, field_packed words (start + 1) 5, field_packed words (start + 6) 4)

-- the number of a word that is read is its field
pub word_again : (words : List ℕ) (start : ℕ) → word_number (word_of words start) ≡ field_of words start 10
unfolding word_of
word_again words start =
    let x = twos_again 16 (field_of words (start + 1) 5) (field_below words (start + 1) 5) in
    let y = twos_again 8 (field_of words (start + 6) 4) (field_below words (start + 6) 4) in
    omega (arith, ten_bits words start)

record Parts (word : BlockWord) : Type 0 where
  x_held : nat_abs word.vx < 16
  y_held : nat_abs word.vy < 8

in_parts : (word : BlockWord) → in_range word ≡ true → Parts word
in_parts word h =
    let both = and_parts (leb (nat_abs word.vx) 15) (leb (nat_abs word.vy) 7) h in
    let x = leb-true _ _ both.0 in
    let y = leb-true _ _ both.1 in
    record { x_held = omega arith; y_held = omega arith }

pub number_most : (word : BlockWord) → in_range word ≡ true → word_number word < 1024
number_most word h =
    let p = in_parts word h in
    let x = field_most 16 word.vx (in_field_lem 16 word.vx p.x_held) in
    let y = field_most 8 word.vy (in_field_lem 8 word.vy p.y_held) in
    let d = digit_most word.s in
    omega arith

by_parts : (word : BlockWord) (s : Bool) (vx vy : ℤ) → s ≡ word.s → vx ≡ word.vx → vy ≡ word.vy
    → ◌≡◌ {A = BlockWord} (record { s = s; vx = vx; vy = vy }) word
by_parts word s vx vy a b c = rw (a, b, c)

-- a word is read from the ten bits of its number
pub word_back : (words : List ℕ) (start : ℕ) (word : BlockWord) → in_range word ≡ true → field_of words start 10 ≡ word_number word
    → word_of words start ≡ word
unfolding word_of
word_back words start word h same =
    let p = in_parts word h in
    let x-in = in_field_lem 16 word.vx p.x_held in
    let y-in = in_field_lem 8 word.vy p.y_held in
    let x = field_most 16 word.vx x-in in
    let y = field_most 8 word.vy y-in in
    let d = digit_most word.s in
    let e = digit_most (stream_bit words start) in
    let ten = ten_bits words start in
    let f = field_below words (start + 1) 5 in
    let g = field_below words (start + 6) 4 in
    let s : digit (stream_bit words start) ≡ digit word.s = omega arith in
    let u : field_of words (start + 1) 5 ≡ twos_field 16 word.vx = omega arith in
    let v : field_of words (start + 6) 4 ≡ twos_field 8 word.vy = omega arith in
    let same_s = digit_same (stream_bit words start) word.s s in
    let same-x = ap (twos_complement 16) u ∙ twos_back 16 word.vx x-in in
    let same-y = ap (twos_complement 8) v ∙ twos_back 8 word.vy y-in in
    by_parts word _ _ _ same_s same-x same-y

-- after the last word the bits are 0
pub words_bit_past : (words : List BlockWord) (k : ℕ) → length words ≤ k / 10 → words_bit words k ≡ false
unfolding words_bit
words_bit_past words k past =
    ap (λ (word : BlockWord). bit_at (9 - k % 10) (word_number word)) (get_or_past words (k / 10) no_word past) ∙ bit_zero (9 - k % 10)

-- bit j of word i
pub words_bit_at : (words : List BlockWord) (i j : ℕ) → j < 10 → words_bit words (10 * i + j) ≡ bit_at (9 - j) (word_number (get_or words i no_word))
unfolding words_bit
words_bit_at words i j h =
    let d : (10 * i + j) / 10 ≡ i = omega arith in
    let r : 9 - (10 * i + j) % 10 ≡ 9 - j = omega arith in
    ap (λ (k : ℕ). bit_at k (word_number (get_or words ((10 * i + j) / 10) no_word))) r
    ∙ ap (λ (k : ℕ). bit_at (9 - j) (word_number (get_or words k no_word))) d

-- the bytes of the words have their bits
pub bytes_bit : (words : List BlockWord) (n k : ℕ) → k < 8 * n → stream_bit (map (words_byte words) (range_with_len 0 n)) k ≡ words_bit words k
unfolding words_byte
bytes_bit words n k h =
    let q = k / 8 in
    let r = k % 8 in
    let place : 8 * q + r ≡ k = omega arith in
    let at : 0 + q ≡ q = omega arith in
    ap (bit_at (7 - r)) (get_or-map-range_with_len (words_byte words) 0 n q q 0 (omega arith) at)
    ∙ bit_packed (words_bit words) (8 * q) 8 r (omega arith)
    ∙ ap (words_bit words) place

-- where the level of a pel stands
pub level_place : (raster : Raster) (bytes : List ℕ) (line pel : ℕ) → 4 ≤ pel → pel ≤ width raster
    → level_in raster bytes line pel ≡ level_of (get_or bytes (1 + word_bytes raster + ((line - 1) * line_levels raster + (pel - 4))) 0)
unfolding level_in line_in
level_place raster bytes line pel low high =
    let start = line_start raster line in
    let least = width_least raster in
    let place : start + (pel - 4) ≡ 1 + word_bytes raster + ((line - 1) * line_levels raster + (pel - 4)) = omega arith in
    ap level_of (get_or-between bytes start (start + line_levels raster) (pel - 4) 0 (omega arith) ∙ ap (λ (k : ℕ). get_or bytes k 0) place)

by_flags : (head : Head) (a b c d : Bool) → a ≡ head.qc1 → b ≡ head.qc2 → c ≡ head.ifm → d ≡ head.frp
    → ◌≡◌ {A = Head} (record { qc1 = a; qc2 = b; ifm = c; frp = d }) head
by_flags head a b c d p q r s = rw (p, q, r, s)

-- the head byte and its bits
pub head_back : (head : Head) → head_of (head_byte head) ≡ head
head_back head =
    let bits = head.qc1 ∷ head.qc2 ∷ head.ifm ∷ head.frp ∷ true ∷ true ∷ true ∷ true ∷ [] in
    by_flags head _ _ _ _ (bit_byte bits 0 (lit< tt)) (bit_byte bits 1 (lit< tt)) (bit_byte bits 2 (lit< tt)) (bit_byte bits 3 (lit< tt))

pub head_marked_lem : (head : Head) → eqb (head_byte head % 16) 15 ≡ true
unfolding packed
head_marked_lem head = eq-eqb (head_byte head % 16) 15 (omega arith)

pub head_again : (byte : ℕ) → byte < 256 → eqb (byte % 16) 15 ≡ true → head_byte (head_of byte) ≡ byte
head_again byte below marked =
    let m = eqb-true (byte % 16) 15 marked in
    let a : bit_at 3 byte ≡ true = eq-eqb (byte / 8 % 2) 1 (omega arith) in
    let b : bit_at 2 byte ≡ true = eq-eqb (byte / 4 % 2) 1 (omega arith) in
    let c : bit_at 1 byte ≡ true = eq-eqb (byte / 2 % 2) 1 (omega arith) in
    let d : bit_at 0 byte ≡ true = eq-eqb (byte / 1 % 2) 1 (omega arith) in
    let same : (bit_at 7 byte ∷ bit_at 6 byte ∷ bit_at 5 byte ∷ bit_at 4 byte ∷ true ∷ true ∷ true ∷ true ∷ [])
    ≡ (bit_at 7 byte ∷ bit_at 6 byte ∷ bit_at 5 byte ∷ bit_at 4 byte ∷ bit_at 3 byte ∷ bit_at 2 byte ∷ bit_at 1 byte ∷ bit_at 0 byte ∷ []) = cc in
    ap byte_of same ∙ byte_bits byte below
