-- The frame header: five bytes PT, FM1, BC, FM2, FC, each with its bits from the most significant on.
use Rattle.std.specs.Prelude.{ℕ, Bool, cond, not, ◌&&◌, List, length, Ok, Err, Result, ◌==◌, slice_index}
use Rattle.format.specs.Bits.{bit_at}
use Rattle.format.specs.declared.header.Header.{Header}
use Rattle.format.specs.declared.refusal.HeaderByte.TheVariants.{Fm1, Fm2}
use Rattle.format.specs.declared.refusal.Refusal.{Refusal}
use Rattle.format.specs.declared.refusal.Refusal.TheVariants.{WrongLength, FixedHeaderBit}

-- FM1 is SBC BRC BUC DRM 1 0 0 0
abbrev pub fm1_fixed : ℕ → Bool
fm1_fixed fm1 = bit_at 3 fm1 && not (bit_at 2 fm1) && not (bit_at 1 fm1) && not (bit_at 0 fm1)

-- FM2 is 1 DRR CMS CRM1 CRM2 SF1 MAF 1, with CMS, SF1 and MAF 1
abbrev pub fm2_fixed : ℕ → Bool
fm2_fixed fm2 = bit_at 7 fm2 && bit_at 5 fm2 && bit_at 2 fm2 && bit_at 1 fm2 && bit_at 0 fm2

abbrev pub header_of : ℕ → ℕ → ℕ → ℕ → ℕ → Header
header_of pt fm1 bc fm2 fc = record {
  parity = pt;
  sbc = bit_at 7 fm1;
  brc = bit_at 6 fm1;
  buc = bit_at 5 fm1;
  drm = bit_at 4 fm1;
  buffer_control = bc;
  drr = bit_at 6 fm2;
  crm1 = bit_at 4 fm2;
  crm2 = bit_at 3 fm2;
  frequency_control = fc;
}

-- five bytes whose fixed bits are right: FM1 is looked at first
abbrev pub five_bytes : ℕ → ℕ → ℕ → ℕ → ℕ → Result Header Refusal
five_bytes pt fm1 bc fm2 fc =
    cond (not (fm1_fixed fm1)) (Err (FixedHeaderBit Fm1))
    (cond (not (fm2_fixed fm2)) (Err (FixedHeaderBit Fm2))
    (Ok (header_of pt fm1 bc fm2 fc)))

-- a header has five bytes, and any other length is refused
abbrev pub read_header : List ℕ → Result Header Refusal
read_header bytes =
    cond (length bytes == 5)
    (five_bytes (slice_index bytes 0) (slice_index bytes 1) (slice_index bytes 2) (slice_index bytes 3) (slice_index bytes 4))
    (Err (WrongLength (length bytes)))
