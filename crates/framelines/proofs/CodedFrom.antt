-- Block-lines coded from bytes, one after another.
use Rattle.std.proofs.Common.{◌≡◌, ℕ, suc, ◌+◌, ◌-◌, ◌*◌, ◌<◌, ◌≤◌, Bool, not, List, ◌++◌, map, length, take, drop, ℤ, Ok, Err, Result, sym, ap, ◌∙◌, mul-le-mul_right, arith}
use borrow.Rule.Slice.PartMut.{post_of}
use Rattle.std.proofs.lemmas.List.{drop-drop, length-drop, take_rest}
use Rattle.std.proofs.lemmas.Bool.{eq-eqb, ne_eqb}
use Rattle.std.specs.List.{between}
use Rattle.format.specs.Bits.{level_of}
use Rattle.format.specs.Front.{front_length}
use Rattle.format.specs.Raster.{width, record_length}
use Rattle.format.specs.Usable.{refuse_if}
use Rattle.format.specs.declared.raster.Raster.{Raster}
use Rattle.format.specs.declared.refusal.Refusal.{Refusal}
use Rattle.format.specs.declared.refusal.Refusal.TheVariants.{WrongLength}
use Rattle.quantizer.specs.declared.characteristic.Characteristic.{Characteristic}
use Rattle.codec.specs.Coder.{block_line_coded}
use Rattle.codec.specs.Decoder.{Frame, block_lines}
use Rattle.codec.specs.Signal.{Signal}
use Rattle.codec.specs.declared.end.Refused.{Refused}
use Rattle.framelines.specs.CodedFrames.{Answer, input_length, front_in, stop_in, pels_in, answered, counted, within, followed, block_line_from, records_coded}
use Rattle.framelines.specs.Frames.{piece}

-- a part within a row of equal parts
pub part_ends : (part i n : ℕ) → i < n → i * part + part ≤ n * part
part_ends part i n h =
    let all : (i + 1) * part ≤ n * part = mul-le-mul_right part (omega arith) in
    let next : (i + 1) * part ≡ i * part + part = omega arith in
    omega arith

-- the bytes of the pels, as the code cuts them
abbrev pub given_pels : ℕ → List ℕ → List ℕ
given_pels first bytes = take (length bytes - (1 + first)) (drop (1 + first) bytes)

pub pels_read : (r : Raster) (bytes : List ℕ) (first w : ℕ) (pels : List ℤ) → length bytes ≡ input_length r → first ≡ front_length r → w ≡ width r
    → take (length (given_pels first bytes)) pels ≡ map level_of (given_pels first bytes) → take (8 * w - 0) pels ≡ pels_in r bytes
pels_read r bytes first w pels whole ef ew read =
    let rest = take_rest bytes (1 + first) in
    let count : length (given_pels first bytes) ≡ length bytes - (1 + first) = ap length rest ∙ length-drop (1 + first) bytes in
    let long : 8 * w - 0 ≡ length (given_pels first bytes) = omega arith in
    ap (λ (k : ℕ). take k pels) long
    ∙ read
    ∙ ap (map level_of) rest
    ∙ ap (λ (k : ℕ). map level_of (drop (1 + k) bytes)) ef

module _ (tops : Characteristic → ℕ) (values numbers : Characteristic → ℤ → ℤ) (r : Raster) where
  -- a wrong count is refused
  pub block_line_short : (f : Frame) (bytes buffer : List ℕ) (s : Signal) → (length bytes ≡ input_length r → ⊥)
      → (Err (WrongLength (length bytes)), buffer, s) ≡ block_line_from tops values numbers r f bytes buffer s
  unfolding block_line_from
  block_line_short f bytes buffer s wrong =
      let coded = answered (block_line_coded tops values numbers f (front_in r bytes) (stop_in bytes) (pels_in r bytes) buffer s) in
      sym (ap (λ (same : Bool). counted coded buffer s (refuse_if (not same) (WrongLength (length bytes)))) (ne_eqb (length bytes) (input_length r) wrong))

  -- what is given in the right count is coded: its parts as the code cuts them, with the pels that were read
  pub block_line_whole : (f : Frame) (bytes buffer : List ℕ) (s : Signal) (first w : ℕ) (pels : List ℤ)
      (answer : Result Frame (Refused Frame) × List ℕ × Signal) → length bytes ≡ input_length r → first ≡ front_length r → w ≡ width r
      → take (length (given_pels first bytes)) pels ≡ map level_of (given_pels first bytes)
      → answer ≡ block_line_coded tops values numbers f (take (1 + first - 1) (drop 1 bytes)) (stop_in bytes) (take (8 * w - 0) pels) buffer s
      → answered answer ≡ block_line_from tops values numbers r f bytes buffer s
  unfolding block_line_from
  block_line_whole f bytes buffer s first w pels answer whole ef ew read is =
      let coded : List ℕ → List ℤ → Result Frame (Refused Frame) × List ℕ × Signal =
      λ front zs. block_line_coded tops values numbers f front (stop_in bytes) zs buffer s in
      ap answered
      (is
      ∙ ap (λ (k : ℕ). coded (take (1 + k - 1) (drop 1 bytes)) (take (8 * w - 0) pels)) ef
      ∙ ap (coded (front_in r bytes)) (pels_read r bytes first w pels whole ef ew read))
      ∙ sym (ap (λ (same : Bool). counted (answered (coded (front_in r bytes) (pels_in r bytes))) buffer s (refuse_if (not same) (WrongLength (length bytes))))
      (eq-eqb (length bytes) (input_length r) whole))

  module _ (bytes : List ℕ) where
    abbrev pub rest_coded : ℕ → ℕ → ℕ → Frame → List ℕ → Signal → Answer Frame
    rest_coded = records_coded tops values numbers r bytes

    -- a turn: what the next block-line answers decides
    pub block_lines_turn : (from to count size n i : ℕ) (f : Frame) (out : List ℕ) (s : Signal) (given : List ℕ) (a : Result Frame Refusal) (written : List ℕ)
        (s' : Signal) → i < n → count ≡ input_length r → size ≡ record_length r → given ≡ piece bytes from count
        → (a, written, s') ≡ block_line_from tops values numbers r f given (between to (to + size) out) s
        → followed (rest_coded (from + count) (to + size) (n - (i + 1))) (a, take to out ++ (written ++ post_of to (to + size - to) out), s')
        ≡ rest_coded from to (n - i) f out s
    unfolding records_coded
    block_lines_turn from to count size n i f out s given a written s' h ec er eg is =
        let left : n - i ≡ suc (n - (i + 1)) = omega arith in
        let end : to + (to + size - to) ≡ to + size = omega arith in
        let next : ℕ → ℕ → Answer Frame → Answer Frame = λ c k. followed (rest_coded (from + c) (to + k) (n - (i + 1))) in
        let here : ℕ → ℕ → Answer Frame = λ c k. block_line_from tops values numbers r f (piece bytes from c) (between to (to + k) out) s in
        let one : ℕ → ℕ → Answer Frame = λ c k. next c k (within to (to + k) out (here c k)) in
        ap (λ (z : List ℕ). next count size (a, take to out ++ (written ++ z), s')) (drop-drop (to + size - to) to out ∙ ap (λ (k : ℕ). drop k out) end)
        ∙ ap (λ (z : Answer Frame). next count size (within to (to + size) out z))
        (is ∙ ap (λ (z : List ℕ). block_line_from tops values numbers r f z (between to (to + size) out) s) eg)
        ∙ ap (λ (c : ℕ). one c size) ec
        ∙ ap (one (input_length r)) er
        ∙ sym (ap (λ (k : ℕ). rest_coded from to k f out s) left)

    pub block_lines_done : (from to n i : ℕ) (f : Frame) (out : List ℕ) (s : Signal) → n ≤ i → (Ok f, out, s) ≡ rest_coded from to (n - i) f out s
    unfolding records_coded
    block_lines_done from to n i f out s h =
        let none : n - i ≡ 0 = omega arith in
        sym (ap (λ (k : ℕ). rest_coded from to k f out s) none)

    -- the block-lines that are left before the block-line i of n
    abbrev pub coded_from : ℕ → ℕ → ℕ → ℕ → Frame → List ℕ → Signal → Answer Frame
    coded_from count size n i = rest_coded (4 + i * count) (5 + i * size) (n - i)

    -- and so where they begin behind the modes and the header
    pub coded_from_turn : (count size n i : ℕ) (f : Frame) (out : List ℕ) (s : Signal) (given : List ℕ) (a : Result Frame Refusal) (written : List ℕ)
        (s' : Signal) → i < n → count ≡ input_length r → size ≡ record_length r → given ≡ piece bytes (4 + i * count) count
        → (a, written, s') ≡ block_line_from tops values numbers r f given (between (5 + i * size) (5 + i * size + size) out) s
        → followed (coded_from count size n (i + 1))
        (a, take (5 + i * size) out ++ (written ++ post_of (5 + i * size) (5 + i * size + size - (5 + i * size)) out), s')
        ≡ coded_from count size n i f out s
    coded_from_turn count size n i f out s given a written s' h ec er eg is =
        let to = 5 + i * size in
        let begins : 4 + (i + 1) * count ≡ 4 + i * count + count = omega arith in
        let goes_out : 5 + (i + 1) * size ≡ 5 + i * size + size = omega arith in
        let rest : ℕ → ℕ → Frame → List ℕ → Signal → Answer Frame = λ from onto. rest_coded from onto (n - (i + 1)) in
        let next : rest (4 + (i + 1) * count) (5 + (i + 1) * size) ≡ rest (4 + i * count + count) (to + size) =
        ap (λ (k : ℕ). rest k (5 + (i + 1) * size)) begins ∙ ap (rest (4 + i * count + count)) goes_out in
        ap (λ (z : Frame → List ℕ → Signal → Answer Frame). followed z (a, take to out ++ (written ++ post_of to (to + size - to) out), s')) next
        ∙ block_lines_turn (4 + i * count) to count size n i f out s given a written s' h ec er eg is

    pub coded_from_done : (count size n i : ℕ) (f : Frame) (out : List ℕ) (s : Signal) → n ≤ i → (Ok f, out, s) ≡ coded_from count size n i f out s
    coded_from_done count size n i f out s h = block_lines_done (4 + i * count) (5 + i * size) n i f out s h

    pub block_lines_begun : (count size n : ℕ) (f : Frame) (out : List ℕ) (s : Signal) → n ≡ block_lines r
        → coded_from count size n 0 f out s ≡ records_coded tops values numbers r bytes 4 5 (block_lines r) f out s
    block_lines_begun count size n f out s en =
        let from : 4 + 0 * count ≡ 4 = omega arith in
        let to : 5 + 0 * size ≡ 5 = omega arith in
        let all : n - 0 ≡ n = omega arith in
        rw (from, to, all, en)
