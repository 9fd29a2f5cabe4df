-- The places of the banks of a memory: the row is the place divided by four, and the bank what is left over.
use Rattle.std.proofs.Common.{◌≡◌, ℕ, ◌+◌, ◌*◌, ◌/◌, ◌%◌, ◌<◌, length, get_or, set, ℤ, pos, sym, ap, ◌∙◌, arith, w8, SFits, to_z, of_z, to_z-of_z}
use Rattle.delay.specs.declared.banks.Banks.{Banks}
use Rattle.delay.specs.Makes.{pels}
use Rattle.delay.specs.Woven.{woven}
use Rattle.delay.proofs.Weaving.{Last, bank, written, length-woven, get_or-woven, set_woven}

lasts : (b : Banks) → Last b.rows b.first.now b.second.now b.third.now b.fourth.now
lasts b = record { first = b.firsts; second = b.seconds; third = b.thirds; fourth = b.fourths }

pub length-pels : (b : Banks) → length (pels b) ≡ b.rows * 4
length-pels b = length-woven b.rows b.first.now b.second.now b.third.now b.fourth.now (lasts b)

split : (place k : ℕ) → place % 4 ≡ k → place / 4 * 4 + k ≡ place
split place k left = omega arith

pub read_place : (b : Banks) (place k : ℕ) → place < b.rows * 4 → place % 4 ≡ k → get_or (bank k b.first.now b.second.now b.third.now b.fourth.now) (place / 4) (pos 0) ≡ get_or (pels b) place (pos 0)
read_place b place k inside left =
    sym (get_or-woven b.rows b.first.now b.second.now b.third.now b.fourth.now (lasts b) (place / 4) k (pos 0) (omega arith) (omega arith))
    ∙ ap (λ i. get_or (pels b) i (pos 0)) (split place k left)

pub write_place : (b : Banks) (place k : ℕ) (v : ℤ) → place < b.rows * 4 → place % 4 ≡ k → woven b.rows (written 0 k (place / 4) v b.first.now) (written 1 k (place / 4) v b.second.now) (written 2 k (place / 4) v b.third.now) (written 3 k (place / 4) v b.fourth.now) ≡ set (pels b) place v
write_place b place k v inside left =
    sym (set_woven b.rows b.first.now b.second.now b.third.now b.fourth.now (lasts b) (place / 4) k v (omega arith) (omega arith))
    ∙ ap (λ i. set (pels b) i v) (split place k left)

-- a value that fits eight bits, as it is stored
pub write_place_fitting : (b : Banks) (place k : ℕ) {v : ℤ} → SFits w8 v → place < b.rows * 4 → place % 4 ≡ k
    → let w = to_z w8 (of_z w8 v) in woven b.rows (written 0 k (place / 4) w b.first.now) (written 1 k (place / 4) w b.second.now) (written 2 k (place / 4) w b.third.now) (written 3 k (place / 4) w b.fourth.now) ≡ set (pels b) place v
write_place_fitting b place k {v} fits inside left =
    write_place b place k (to_z w8 (of_z w8 v)) inside left ∙ ap (set (pels b) place) (to_z-of_z fits)
