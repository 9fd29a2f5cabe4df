-- Bits of a byte and of a stream of bytes, and numbers in two's complement.
use Rattle.std.specs.Prelude.{ℕ, zero, suc, ◌+◌, ◌-◌, ◌*◌, ◌/◌, ◌%◌, ◌^◌, Bool, true, false, cond, List, ℤ, pos, ◌-ℤ◌, ◌==◌, nat_lt, slice_index}

-- bit k of a byte, the least significant at 0
abbrev pub bit_at : ℕ → ℕ → Bool
bit_at k byte = byte / 2 ^ k % 2 == 1

-- bit k of a stream: the bytes one after another, each with its most significant bit first
abbrev pub stream_bit : List ℕ → ℕ → Bool
stream_bit bytes k = bit_at (7 - k % 8) (slice_index bytes (k / 8))

abbrev pub digit : Bool → ℕ
digit true = 1
digit false = 0

-- the number that count bits make, from bit start on, the most significant first
unfoldable pub packed : (ℕ → Bool) → ℕ → ℕ → ℕ
packed bit start zero = 0
packed bit start (suc count) = 2 * packed bit start count + digit (bit (start + count))

-- the number that count bits of a stream make, from bit start on
unfoldable pub field_of : List ℕ → ℕ → ℕ → ℕ
field_of bytes start count = packed (stream_bit bytes) start count

-- a field whose upper half of numbers, from half on, stands for those below 0
abbrev pub twos_complement : ℕ → ℕ → ℤ
twos_complement half field = cond (nat_lt field half) (pos field) (pos field -ℤ pos (2 * half))

-- the level number in a byte
abbrev pub level_of : ℕ → ℤ
level_of byte = twos_complement 128 byte
