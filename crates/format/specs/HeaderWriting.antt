-- The bytes of a header, and that reading and writing undo each other.
use Rattle.std.specs.Prelude.{◌≡◌, ℕ, true, false, List, [], ◌∷◌, Ok}
use Rattle.format.specs.Header.{read_header}
use Rattle.format.specs.Packing.{Bytes, byte_of}
use Rattle.format.specs.declared.header.Header.{Header}

-- FM1 is SBC BRC BUC DRM 1 0 0 0
abbrev pub fm1_byte : Header → ℕ
fm1_byte header = byte_of (header.sbc ∷ header.brc ∷ header.buc ∷ header.drm ∷ true ∷ false ∷ false ∷ false ∷ [])

-- FM2 is 1 DRR 1 CRM1 CRM2 1 1 1
abbrev pub fm2_byte : Header → ℕ
fm2_byte header = byte_of (true ∷ header.drr ∷ true ∷ header.crm1 ∷ header.crm2 ∷ true ∷ true ∷ true ∷ [])

-- PT, FM1, BC, FM2, FC
abbrev pub header_bytes : Header → List ℕ
header_bytes header =
    header.parity ∷ fm1_byte header ∷ header.buffer_control ∷ fm2_byte header ∷ header.frequency_control ∷ []

-- reading what was written gives the header
abbrev pub HeadersReadBack : Type 0
HeadersReadBack = (header : Header) → read_header (header_bytes header) ≡ Ok header

-- writing what was read gives the bytes
abbrev pub HeaderBytesWrittenBack : Type 0
HeaderBytesWrittenBack = (bytes : List ℕ) (header : Header) → Bytes bytes → read_header bytes ≡ Ok header → header_bytes header ≡ bytes
