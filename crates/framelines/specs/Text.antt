-- The text of a line of the log.
use Rattle.std.specs.Prelude.{ℕ, ◌+◌, ◌/◌, ◌%◌, cond, List, ◌++◌, codes, decimal, nat_lt}
use Rattle.std.proofs.Math.Utf8.{encode}
use Rattle.format.specs.Refusal.{number_of, place_of}
use Rattle.framelines.specs.declared.entry.Entry.{Entry}
use Rattle.framelines.specs.declared.entry.Entry.TheVariants.{Frame, Refused}

-- 0 to 9 and A to F
abbrev pub hex_digit : ℕ → ℕ
hex_digit n = cond (nat_lt n 10) (48 + n) (cond (nat_lt n 15) (55 + n) 70)

-- number and held pels in decimal, parity and planes each in two hexadecimal digits
abbrev pub entry_text : Entry → List ℕ
entry_text (Frame number parity planes held) =
    codes "FRAME " ++ (decimal number
    ++ (codes " PARITY " ++ (encode (hex_digit (parity / 16)) ++ (encode (hex_digit (parity % 16))
    ++ (codes " PLANES " ++ (encode (hex_digit (planes / 16)) ++ (encode (hex_digit (planes % 16))
    ++ (codes " HELD " ++ decimal held))))))))
entry_text (Refused refusal) = codes "REFUSED " ++ (decimal (number_of refusal) ++ (codes " " ++ decimal (place_of refusal)))
