use Rattle.std.proofs.Common.{◌≡◌, ℕ, ◌-◌, ◌≤◌, List, [], ◌∷◌, ◌++◌, length, take, drop, set, ap, ◌∙◌, arith}
use borrow.Rule.Slice.PartMut.{put_mid}
use Rattle.std.proofs.lemmas.List.{append-nil, drop_all, length-set, length-drop, take_rest}
use Rattle.std.proofs.lemmas.List.FromFn.{fill_by_all}
use Rattle.format.specs.RecordWriting.{words_byte}
use Rattle.format.proofs.writer.RangedWords.write.Goals as goal

-- a first element, and all that stands behind it
behind : (front : List ℕ) (h : ℕ) (rest : List ℕ) → 1 ≤ length front → put_mid 1 (length (set front 0 h) - 1) (set front 0 h) rest ≡ h ∷ rest
behind [] h rest some = absurd (omega arith)
behind (b ∷ bytes) h rest some =
    ap (λ xs. h ∷ (rest ++ xs)) (drop_all (length (h ∷ bytes) - 1) bytes (omega arith)) ∙ ap (λ xs. h ∷ xs) (append-nil rest)

-- how much that is
room : (front : List ℕ) (h : ℕ) → length (take (length (set front 0 h) - 1) (drop 1 (set front 0 h))) ≡ length front - 1
room front h =
    let same = length-set front 0 h in
    ap length (take_rest (set front 0 h) 1) ∙ length-drop 1 (set front 0 h) ∙ omega arith

pub byte-requires : goal.byte-requires
byte-requires c = let n = room c.args.front.now c.args.head in omega arith

pub returns : goal.returns
returns c =
    let long : length c.loop-i.byte-items ≡ length c.args.front.now - 1 = c.loop-i.auto.byte-items ∙ room c.args.front.now c.args.head in
    behind c.args.front.now c.args.head c.loop-i.byte-items c.requires.some
    ∙ ap (λ xs. c.args.head ∷ xs)
    (fill_by_all (words_byte c.args.self.now.words.now) c.loop-i.byte-items (length c.args.front.now - 1) 0 long
    (λ k h. c.loop-i.invariant k (omega arith)))
