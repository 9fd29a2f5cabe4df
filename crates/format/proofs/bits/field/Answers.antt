use Rattle.std.proofs.Common.{◌≡◌, ℕ, ◌+◌, ◌-◌, ◌*◌, ◌/◌, ◌%◌, ◌^◌, sym, ap, ◌∙◌, arith}
use Rattle.std.proofs.lemmas.Nat.{one_shl}
use Rattle.format.specs.Bits.{field_of}
use Rattle.format.proofs.Fields.{field_below, field_short}
use Rattle.format.proofs.Windows.{window}
use Rattle.format.proofs.bits.field.Goals as goal
use Rattle.format.proofs.bits.field.Goals.{After-from-pair}

-- the two bytes, shifted and cut, are the field
same : (c : After-from-pair)
    → c.from-pair.result / 2 ^ (16 - c.args.start % 8 - c.args.count) % ((1 * 2 ^ c.args.count) % 2 ^ 32)
    ≡ field_of c.args.bytes.now c.args.start c.args.count
same c =
    let bytes = c.args.bytes.now in
    let q = c.args.start / 8 in
    let o = c.args.start % 8 in
    let n = c.args.count in
    let pair = c.from-pair.ensures ∙ c.from_be_bytes.ensures in
    let high = c.byte_at.ensures in
    let low = c.byte_at-2.ensures in
    let cut = one_shl n 32 (omega arith) in
    let start : 8 * q + o ≡ c.args.start = omega arith in
    let w = window bytes q o n (c.type_inv.bytes (q + 1)).fits (omega arith) in
    rw (pair, high, low, cut) (sym w ∙ ap (λ (k : ℕ). field_of bytes k n) start)

pub overflow_cast-result-3 : goal.overflow_cast-result-3
overflow_cast-result-3 c =
    let e = same (goal.at.overflow_cast-result-3 c).After-from-pair in
    let b = field_short c.args.bytes.now c.args.start c.args.count 8 (omega arith) in
    record { fits = omega arith }

pub returns : goal.returns
returns c =
    let e = same (goal.at.returns c).After-from-pair in
    let b = field_below c.args.bytes.now c.args.start c.args.count in
    record { value = e; bound = omega arith }
