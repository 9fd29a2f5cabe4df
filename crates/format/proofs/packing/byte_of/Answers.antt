use Rattle.std.proofs.Common.{◌≡◌, ℕ, ◌+◌, ◌*◌, ◌%◌, ◌^◌, ◌<◌, ◌≤◌, Bool, false, List, [], ◌∷◌, suc, length, get_or, bit_or, sym, ap, ◌∙◌, arith, rules}
use Rattle.std.specs.List.{fold}
use Rattle.std.proofs.lemmas.Nat.{or_shifted}
use Rattle.std.proofs.lemmas.Iterator.{YieldsList-from_slice}
use Rattle.std.proofs.lemmas.Iterator.Consumers.{fold_from_yields_List}
use Rattle.format.specs.Bits.{digit, packed}
use Rattle.format.proofs.Packed.{digit_most, packed_short, packed_none, packed_more, bool_digit}
use Rattle.format.proofs.packing.byte_of.Goals as goal

-- a byte with one bit more
abbrev shift_in : ℕ → Bool → ℕ
shift_in byte bit = bit_or (byte * 2 % 256) (digit bit)

-- no bit is lost from less than half of a byte's numbers
one_in : (byte : ℕ) (bit : Bool) → byte < 128 → shift_in byte bit ≡ 2 * byte + digit bit
one_in byte bit short =
    let d = digit_most bit in
    let whole : byte * 2 % 256 ≡ byte * 2 ^ 1 = omega arith in
    let joined : bit_or (byte * 2 ^ 1) (digit bit) ≡ byte * 2 ^ 1 + digit bit = or_shifted byte 1 (digit bit) (omega arith) in
    ap (λ (n : ℕ). bit_or n (digit bit)) whole ∙ joined ∙ omega arith

-- bits that follow those that are packed
packed_on : (bit : ℕ → Bool) (n : ℕ) (bits : List Bool) → n + length bits ≤ 8
    → ((j : ℕ) → j < length bits → bit (n + j) ≡ get_or bits j false)
    → fold shift_in (packed bit 0 n) bits ≡ packed bit 0 (n + length bits)
packed_on bit n [] most same = let e : n + 0 ≡ n = omega arith in ap (packed bit 0) (sym e)
packed_on bit n (b ∷ bits) most same =
    let here : bit n ≡ b = let e : n + 0 ≡ n = omega arith in ap bit (sym e) ∙ same 0 (omega arith) in
    let short = packed_short bit 0 n (omega arith) in
    let one = one_in (packed bit 0 n) b short in
    let place : 0 + n ≡ n = omega arith in
    let d : digit (bit (0 + n)) ≡ digit b = ap (λ (k : ℕ). digit (bit k)) place ∙ ap digit here in
    let more = packed_more bit 0 n in
    let next : shift_in (packed bit 0 n) b ≡ packed bit 0 (n + 1) = omega arith in
    let rest = packed_on bit (n + 1) bits (omega arith) (λ j h. let e : n + 1 + j ≡ n + (j + 1) = omega arith in ap bit e ∙ same (j + 1) (omega arith) ∙ ap (λ (k : ℕ). get_or (b ∷ bits) k false) (let f : j + 1 ≡ suc j = omega arith in f)) in
    let count : n + 1 + length bits ≡ n + suc (length bits) = omega arith in
    ap (λ (byte : ℕ). fold shift_in byte bits) next ∙ rest ∙ ap (packed bit 0) count

pub returns : goal.returns
returns c =
    let bit : ℕ → Bool = λ k. get_or c.args.bits k false in
    let whole : length c.args.bits ≡ 8 = search rules in
    let folded : c.fold.result ≡ fold shift_in 0 c.args.bits =
    fold_from_yields_List _ shift_in 0 c.fold.result c.fold.ensures.ran (YieldsList-from_slice c.args.bits c.iter.ensures.rest) (λ a x b q called. search (rules, bool_digit)) in
    let packed_whole = packed_on bit 0 c.args.bits (omega arith) (λ j h. let e : 0 + j ≡ j = omega arith in ap bit e) in
    let count : 0 + length c.args.bits ≡ 8 = omega arith in
    folded ∙ ap (λ (byte : ℕ). fold shift_in byte c.args.bits) (sym (packed_none bit 0)) ∙ packed_whole ∙ ap (packed bit 0) count
