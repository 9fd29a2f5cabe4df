-- When a record is usable: its faults, and the order in which they are looked for.
use Rattle.std.specs.Prelude.{◌≡◌, ℕ, zero, suc, ◌+◌, ◌-◌, ◌*◌, ◌<◌, ◌≤◌, Bool, false, cond, not, ◌&&◌, ◌||◌, List, length, ℤ, pos, negsuc, Ok, Err, Result, ◌==◌, nat_lt, slice_index, unsigned_abs}
use Rattle.std.specs.Result.{result_and}
use Rattle.format.specs.Bits.{field_of, level_of}
use Rattle.format.specs.Modes.{block_of, repeated, subsampled, omits_pel}
use Rattle.format.specs.Raster.{blocks, width, word_bytes, line_levels}
use Rattle.format.specs.Record.{head_in, head_marked, words_in, word_in, level_in}
use Rattle.format.specs.declared.raster.Raster.{Raster}
use Rattle.format.specs.declared.refusal.Refusal.{Refusal}
use Rattle.format.specs.declared.refusal.Refusal.TheVariants.{FixedHeadBits, ForcedRepeat, StrayWord, VectorRange, LevelValue}
use Rattle.format.specs.declared.words.BlockWord.{BlockWord}
use Rattle.format.specs.declared.words.Head.{Head}

abbrev pub Verdict : Type 0
Verdict = Result (Unit {0}) Refusal

-- a fault is refused
abbrev pub refuse_if : Bool → Refusal → Verdict
refuse_if fault refusal = cond fault (Err refusal) (Ok tt)

-- a test at each of count places from start on: the first refusal counts
unfoldable pub in_order : (ℕ → Verdict) → ℕ → ℕ → Verdict
in_order test start zero = Ok tt
in_order test start (suc count) = result_and (test start) (in_order test (start + 1) count)

-- what a test may answer at these places is what a function gives there
abbrev pub AnswersAs : (ℕ → Verdict → Type 0) → ℕ → ℕ → (ℕ → Verdict) → Type 0
AnswersAs answers start count test =
    (place : ℕ) (verdict : Verdict) → start ≤ place → place < start + count → answers place verdict → verdict ≡ test place

abbrev pub equals : ℤ → ℤ → Bool
equals (pos a) (pos b) = a == b
equals (pos a) (negsuc b) = false
equals (negsuc a) (pos b) = false
equals (negsuc a) (negsuc b) = a == b

-- the last four bits of the head are all 1
abbrev pub mark_test : List ℕ → Verdict
mark_test bytes = refuse_if (not (head_marked bytes)) FixedHeadBits

-- IFM 0 and FRP 0
abbrev pub forced_repeat : Head → Bool
forced_repeat head = not head.ifm && repeated head

abbrev pub forced_test : List ℕ → Verdict
forced_test bytes = refuse_if (forced_repeat (head_in bytes)) ForcedRepeat

abbrev pub zero_word : BlockWord → Bool
zero_word word = not word.s && equals word.vx (pos 0) && equals word.vy (pos 0)

-- S is 1 with SBC 0, or the word is not 0 when the block-line is repeated
abbrev pub stray_word : Bool → Head → BlockWord → Bool
stray_word sbc head word = (word.s && not sbc) || (repeated head && not (zero_word word))

unfoldable pub word_test : Raster → Bool → List ℕ → ℕ → Verdict
word_test raster sbc bytes block = refuse_if (stray_word sbc (head_in bytes) (word_in raster bytes block)) (StrayWord block)

abbrev pub words_test : Raster → Bool → List ℕ → Verdict
words_test raster sbc bytes = in_order (word_test raster sbc bytes) 2 (blocks raster)

-- the bits after the words, to the end of their last byte
abbrev pub fill_in : Raster → List ℕ → ℕ
fill_in raster bytes = field_of (words_in raster bytes) (10 * blocks raster) (8 * word_bytes raster - 10 * blocks raster)

abbrev pub fill_test : Raster → List ℕ → Verdict
fill_test raster bytes = refuse_if (not (fill_in raster bytes == 0)) (StrayWord 0)

-- vx is −16 or vy is −8
abbrev pub bad_vector : BlockWord → Bool
bad_vector word = equals word.vx (negsuc 15) || equals word.vy (negsuc 7)

unfoldable pub vector_test : Raster → List ℕ → ℕ → Verdict
vector_test raster bytes block = refuse_if (bad_vector (word_in raster bytes block)) (VectorRange block)

abbrev pub vectors_test : Raster → List ℕ → Verdict
vectors_test raster bytes = in_order (vector_test raster bytes) 2 (blocks raster)

-- the block of a pel is subsampled; the burst, block 1, never is
unfoldable pub thinned : Raster → Bool → List ℕ → ℕ → Bool
thinned raster sbc bytes block = nat_lt 1 block && subsampled sbc (head_in bytes) (word_in raster bytes block)

abbrev pub omitted : Raster → Bool → List ℕ → ℕ → ℕ → Bool
omitted raster sbc bytes line pel = omits_pel (head_in bytes) (thinned raster sbc bytes (block_of pel)) line pel

-- a level is beyond the top, or not 0 on an omitted pel
abbrev pub bad_level : ℕ → Bool → ℤ → Bool
bad_level top gone level = nat_lt top (unsigned_abs level) || (gone && not (equals level (pos 0)))

-- how large each level of a line may be, in the order of its pels: 0 where the pel is omitted, otherwise the top
abbrev pub Largest : Raster → Bool → ℕ → List ℕ → ℕ → List ℕ → Type 0
Largest raster sbc top bytes line sizes =
    (i : ℕ) → i < line_levels raster → slice_index sizes i ≡ cond (omitted raster sbc bytes line (i + 4)) 0 top

-- each level is at most so large
abbrev pub AllWithin : List ℕ → List ℕ → Type 0
AllWithin levels sizes = (i : ℕ) → i < length levels → unsigned_abs (level_of (slice_index levels i)) ≤ slice_index sizes i

unfoldable pub level_test : Raster → Bool → ℕ → List ℕ → ℕ → ℕ → Verdict
level_test raster sbc top bytes line pel =
    refuse_if (bad_level top (omitted raster sbc bytes line pel) (level_in raster bytes line pel))
    (LevelValue ((line - 1) * width raster + pel))

-- the levels of a line, from pel 4 to the end of the line
unfoldable pub line_test : Raster → Bool → ℕ → List ℕ → ℕ → Verdict
line_test raster sbc top bytes line = in_order (level_test raster sbc top bytes line) 4 (line_levels raster)

-- the levels of the eight lines
abbrev pub levels_test : Raster → Bool → ℕ → List ℕ → Verdict
levels_test raster sbc top bytes = in_order (line_test raster sbc top bytes) 1 8

-- the tests of the head and the words alone, in their order
abbrev pub front_usable : Raster → Bool → List ℕ → Verdict
front_usable raster sbc bytes =
    result_and (mark_test bytes)
    (result_and (forced_test bytes)
    (result_and (words_test raster sbc bytes)
    (result_and (fill_test raster bytes)
    (vectors_test raster bytes))))

-- the tests in their order: the first refusal counts
abbrev pub usable : Raster → Bool → ℕ → List ℕ → Verdict
usable raster sbc top bytes =
    result_and (mark_test bytes)
    (result_and (forced_test bytes)
    (result_and (words_test raster sbc bytes)
    (result_and (fill_test raster bytes)
    (result_and (vectors_test raster bytes)
    (levels_test raster sbc top bytes)))))
