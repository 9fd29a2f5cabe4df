-- Bits packed into numbers, the most significant first, and numbers written in two's complement.
use Rattle.std.specs.Prelude.{ℕ, ◌+◌, ◌-◌, ◌*◌, ◌<◌, Bool, false, List, ℤ, pos, negsuc, slice_index, slice_index_or}
use Rattle.format.specs.Bits.{packed}

-- each number of a list is one of a byte
abbrev pub Bytes : List ℕ → Type 0
Bytes bytes = (i : ℕ) → slice_index bytes i < 256

-- the byte that a list of eight bits makes
abbrev pub byte_of : List Bool → ℕ
byte_of bits = packed (λ k. slice_index_or bits k false) 0 8

-- the field that stands for a number in two's complement: those below 0 have the upper half, from half on
abbrev pub twos_field : ℕ → ℤ → ℕ
twos_field half (pos n) = n
twos_field half (negsuc n) = 2 * half - (n + 1)
