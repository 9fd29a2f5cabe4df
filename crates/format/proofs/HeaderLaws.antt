-- Reading and writing a header undo each other.
use Rattle.std.proofs.Common.{◌≡◌, ℕ, ◌<◌, Bool, true, false, cond, not, ◌&&◌, eqb, List, [], ◌∷◌, length, get_or, Ok, Err, Result, sym, refl, ap, ◌∙◌, arith, lit<}
use Rattle.std.proofs.lemmas.Bool.{true≢false, eqb-true}
use Rattle.format.specs.Bits.{bit_at}
use Rattle.format.specs.Header.{fm1_fixed, fm2_fixed, header_of, five_bytes}
use Rattle.format.specs.HeaderWriting.{fm1_byte, fm2_byte, header_bytes, HeadersReadBack, HeaderBytesWrittenBack}
use Rattle.format.specs.Packing.{byte_of}
use Rattle.format.specs.declared.header.Header.{Header}
use Rattle.format.specs.declared.refusal.Refusal.{Refusal}
use Rattle.format.proofs.Packed.{byte_bits, bit_byte}

-- five bytes by their bits
five_by_bits : (pt fm1 bc fm2 fc : ℕ) (header : Header)
    → bit_at 7 fm1 ≡ header.sbc → bit_at 6 fm1 ≡ header.brc → bit_at 5 fm1 ≡ header.buc → bit_at 4 fm1 ≡ header.drm
    → bit_at 3 fm1 ≡ true → bit_at 2 fm1 ≡ false → bit_at 1 fm1 ≡ false → bit_at 0 fm1 ≡ false
    → bit_at 7 fm2 ≡ true → bit_at 6 fm2 ≡ header.drr → bit_at 5 fm2 ≡ true → bit_at 4 fm2 ≡ header.crm1 → bit_at 3 fm2 ≡ header.crm2
    → bit_at 2 fm2 ≡ true → bit_at 1 fm2 ≡ true → bit_at 0 fm2 ≡ true
    → pt ≡ header.parity → bc ≡ header.buffer_control → fc ≡ header.frequency_control
    → five_bytes pt fm1 bc fm2 fc ≡ Ok header
five_by_bits pt fm1 bc fm2 fc header a7 a6 a5 a4 a3 a2 a1 a0 b7 b6 b5 b4 b3 b2 b1 b0 p b f =
    rw (a7, a6, a5, a4, a3, a2, a1, a0, b7, b6, b5, b4, b3, b2, b1, b0, p, b, f)

pub headers_read_back : HeadersReadBack
headers_read_back header =
    let bits1 = header.sbc ∷ header.brc ∷ header.buc ∷ header.drm ∷ true ∷ false ∷ false ∷ false ∷ [] in
    let bits2 = true ∷ header.drr ∷ true ∷ header.crm1 ∷ header.crm2 ∷ true ∷ true ∷ true ∷ [] in
    five_by_bits header.parity (byte_of bits1) header.buffer_control (byte_of bits2) header.frequency_control header
    (bit_byte bits1 0 (lit< tt)) (bit_byte bits1 1 (lit< tt)) (bit_byte bits1 2 (lit< tt)) (bit_byte bits1 3 (lit< tt))
    (bit_byte bits1 4 (lit< tt)) (bit_byte bits1 5 (lit< tt)) (bit_byte bits1 6 (lit< tt)) (bit_byte bits1 7 (lit< tt))
    (bit_byte bits2 0 (lit< tt)) (bit_byte bits2 1 (lit< tt)) (bit_byte bits2 2 (lit< tt)) (bit_byte bits2 3 (lit< tt))
    (bit_byte bits2 4 (lit< tt)) (bit_byte bits2 5 (lit< tt)) (bit_byte bits2 6 (lit< tt)) (bit_byte bits2 7 (lit< tt))
    refl refl refl

-- the fixed bits of FM1 and of FM2
fixed_fm1 : (a b c d : Bool) → (a && not b && not c && not d) ≡ true → (a ≡ true) × (b ≡ false) × (c ≡ false) × (d ≡ false)
fixed_fm1 true false false false h = (refl, refl, refl, refl)
fixed_fm1 false b c d h = absurd (true≢false (sym h))
fixed_fm1 true true c d h = absurd (true≢false (sym h))
fixed_fm1 true false true d h = absurd (true≢false (sym h))
fixed_fm1 true false false true h = absurd (true≢false (sym h))

fixed_fm2 : (a b c d e : Bool) → (a && b && c && d && e) ≡ true → (a ≡ true) × (b ≡ true) × (c ≡ true) × (d ≡ true) × (e ≡ true)
fixed_fm2 true true true true true h = (refl, refl, refl, refl, refl)
fixed_fm2 false b c d e h = absurd (true≢false (sym h))
fixed_fm2 true false c d e h = absurd (true≢false (sym h))
fixed_fm2 true true false d e h = absurd (true≢false (sym h))
fixed_fm2 true true true false e h = absurd (true≢false (sym h))
fixed_fm2 true true true true false h = absurd (true≢false (sym h))

fm1_again : (pt fm1 bc fm2 fc : ℕ) → fm1 < 256 → fm1_fixed fm1 ≡ true → fm1_byte (header_of pt fm1 bc fm2 fc) ≡ fm1
fm1_again pt fm1 bc fm2 fc below fixed =
    let f = fixed_fm1 (bit_at 3 fm1) (bit_at 2 fm1) (bit_at 1 fm1) (bit_at 0 fm1) fixed in
    let whole = byte_bits fm1 below in
    let same : (bit_at 7 fm1 ∷ bit_at 6 fm1 ∷ bit_at 5 fm1 ∷ bit_at 4 fm1 ∷ true ∷ false ∷ false ∷ false ∷ [])
    ≡ (bit_at 7 fm1 ∷ bit_at 6 fm1 ∷ bit_at 5 fm1 ∷ bit_at 4 fm1 ∷ bit_at 3 fm1 ∷ bit_at 2 fm1 ∷ bit_at 1 fm1 ∷ bit_at 0 fm1 ∷ []) = cc in
    ap byte_of same ∙ whole

fm2_again : (pt fm1 bc fm2 fc : ℕ) → fm2 < 256 → fm2_fixed fm2 ≡ true → fm2_byte (header_of pt fm1 bc fm2 fc) ≡ fm2
fm2_again pt fm1 bc fm2 fc below fixed =
    let f = fixed_fm2 (bit_at 7 fm2) (bit_at 5 fm2) (bit_at 2 fm2) (bit_at 1 fm2) (bit_at 0 fm2) fixed in
    let whole = byte_bits fm2 below in
    let same : (true ∷ bit_at 6 fm2 ∷ true ∷ bit_at 4 fm2 ∷ bit_at 3 fm2 ∷ true ∷ true ∷ true ∷ [])
    ≡ (bit_at 7 fm2 ∷ bit_at 6 fm2 ∷ bit_at 5 fm2 ∷ bit_at 4 fm2 ∷ bit_at 3 fm2 ∷ bit_at 2 fm2 ∷ bit_at 1 fm2 ∷ bit_at 0 fm2 ∷ []) = cc in
    ap byte_of same ∙ whole

-- what passed a test is the answer behind it
passed : (t : Bool) (r : Refusal) (rest : Result Header Refusal) (header : Header) → cond (not t) (Err r) rest ≡ Ok header
    → (t ≡ true) × (rest ≡ Ok header)
passed true r rest header h = (refl, h)
passed false r rest header h = let z : ◌≡◌ {A = ℕ} 0 1 = cc in absurd (omega arith)

five_again : (pt fm1 bc fm2 fc : ℕ) (header : Header) → fm1 < 256 → fm2 < 256 → five_bytes pt fm1 bc fm2 fc ≡ Ok header
    → header_bytes header ≡ pt ∷ fm1 ∷ bc ∷ fm2 ∷ fc ∷ []
five_again pt fm1 bc fm2 fc header low1 low2 h =
    let first = passed (fm1_fixed fm1) _ _ header h in
    let second = passed (fm2_fixed fm2) _ _ header first.1 in
    let one = fm1_again pt fm1 bc fm2 fc low1 first.0 in
    let two = fm2_again pt fm1 bc fm2 fc low2 second.0 in
    let is : header_of pt fm1 bc fm2 fc ≡ header = cc in
    let same : header_bytes (header_of pt fm1 bc fm2 fc) ≡ pt ∷ fm1 ∷ bc ∷ fm2 ∷ fc ∷ [] = rw (one, two) in
    sym (ap header_bytes is) ∙ same

-- a header that was read has five bytes
five_passed : (t : Bool) (r : Refusal) (rest : Result Header Refusal) (header : Header) → cond t rest (Err r) ≡ Ok header
    → (t ≡ true) × (rest ≡ Ok header)
five_passed true r rest header h = (refl, h)
five_passed false r rest header h = let z : ◌≡◌ {A = ℕ} 0 1 = cc in absurd (omega arith)

list_of_five : (xs : List ℕ) → length xs ≡ 5 → xs ≡ get_or xs 0 0 ∷ get_or xs 1 0 ∷ get_or xs 2 0 ∷ get_or xs 3 0 ∷ get_or xs 4 0 ∷ []
list_of_five (a ∷ b ∷ c ∷ d ∷ e ∷ []) n = refl
list_of_five [] n = absurd (omega arith)
list_of_five (a ∷ []) n = absurd (omega arith)
list_of_five (a ∷ b ∷ []) n = absurd (omega arith)
list_of_five (a ∷ b ∷ c ∷ []) n = absurd (omega arith)
list_of_five (a ∷ b ∷ c ∷ d ∷ []) n = absurd (omega arith)
list_of_five (a ∷ b ∷ c ∷ d ∷ e ∷ f ∷ more) n = absurd (omega arith)

pub header_bytes_written_back : HeaderBytesWrittenBack
header_bytes_written_back bytes header low h =
    let whole = five_passed (eqb (length bytes) 5) _ _ header h in
    five_again _ _ _ _ _ header (low 1) (low 3) whole.1
    ∙ sym (list_of_five bytes (eqb-true (length bytes) 5 whole.0))
