-- A byte as two hexadecimal digits.
use Rattle.std.proofs.Common.{◌≡◌, ℕ, ◌-◌, ◌^◌, ◌<◌, ◌/◌, ◌%◌, true, false, List, [], ◌++◌, codes, decimal, append_assoc, arith}
use Rattle.std.proofs.Math.Utf8.{encode}
use Rattle.std.proofs.lemmas.Bool.Decides.{nat_tests}
use Rattle.std.proofs.lemmas.Fmt.{hex_byte}
use Rattle.std.proofs.lemmas.Str.{encode_ascii}
use Rattle.std.specs.Fmt.{digit_glyph, digits, format_spec, padded_integral}
use Rattle.framelines.specs.Text.{hex_digit, entry_text}
use Rattle.framelines.specs.declared.entry.Entry.TheVariants.{Frame}

glyph_of : (n : ℕ) → n < 16 → hex_digit n ≡ digit_glyph true n
glyph_of n h = grind (arith, nat_tests)

small : (n : ℕ) → n < 16 → hex_digit n < 128
small n h = grind (arith, nat_tests)

-- what `{:02X}` writes
abbrev pub printed : ℕ → List ℕ
printed n = padded_integral (format_spec 32 0 4 2 (2 ^ 64 - 1)) false [] (digits 16 true n)

printed_as : (n : ℕ) → n < 256 → printed n ≡ encode (hex_digit (n / 16)) ++ encode (hex_digit (n % 16))
printed_as n h =
    let high : n / 16 < 16 = omega arith in
    let low : n % 16 < 16 = omega arith in
    let a = encode_ascii (hex_digit (n / 16)) (small (n / 16) high) in
    let b = encode_ascii (hex_digit (n % 16)) (small (n % 16) low) in
    rw (a, b, glyph_of (n / 16) high, glyph_of (n % 16) low) (hex_byte true n h)

-- the line of a frame as it is printed
pub frame_printed : (number parity planes held : ℕ) → parity < 256 → planes < 256
    → codes "FRAME " ++ (decimal number ++ (codes " PARITY " ++ (printed parity ++ (codes " PLANES " ++ (printed planes ++ (codes " HELD " ++ decimal held))))))
    ≡ entry_text (Frame number parity planes held)
frame_printed number parity planes held p q = rw (printed_as parity p, printed_as planes q) (simp append_assoc)
