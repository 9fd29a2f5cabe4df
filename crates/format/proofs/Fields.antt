-- A field of some bits packs those of its stream, and is below that power of 2.
use Rattle.std.proofs.Common.{◌≡◌, ℕ, ◌^◌, ◌<◌, ◌≤◌, List, refl, arith, pow_mono}
use Rattle.format.specs.Bits.{stream_bit, packed, field_of}
use Rattle.format.proofs.Packed.{packed_below}

pub field_packed : (bytes : List ℕ) (start count : ℕ) → field_of bytes start count ≡ packed (stream_bit bytes) start count
unfolding field_of
field_packed bytes start count = refl

pub field_below : (bytes : List ℕ) (start count : ℕ) → field_of bytes start count < 2 ^ count
unfolding field_of
field_below bytes start count = packed_below (stream_bit bytes) start count

pub field_short : (bytes : List ℕ) (start count most : ℕ) → count ≤ most → field_of bytes start count < 2 ^ most
field_short bytes start count most h =
    let b = field_below bytes start count in
    let m = pow_mono h in
    omega arith
