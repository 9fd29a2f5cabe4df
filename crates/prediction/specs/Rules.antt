-- The rules of one pel, over whole numbers: from the values that a pel reads to what follows.
use Rattle.std.specs.Prelude.{ℕ, ◌-◌, ◌/◌, Bool, true, false, cond, not, ◌&&◌, ◌||◌, ℤ, pos, negsuc, ◌+ℤ◌, ◌-ℤ◌, int_lt, nat_le, unsigned_abs}
use Rattle.prediction.specs.declared.marks.Marks.{Marks}
use Rattle.prediction.specs.declared.marks.MarksAround.{MarksAround}
use Rattle.prediction.specs.declared.marks.Around.{Around}
use Rattle.prediction.specs.declared.marks.Sum.{Sum}
use Rattle.prediction.specs.declared.marks.Worked.{Worked}
use Rattle.prediction.specs.declared.marks.BackgroundControl.{BackgroundControl}

-- half of a number, rounded down, also below zero
abbrev pub halved : ℤ → ℤ
halved (pos n) = pos (n / 2)
halved (negsuc n) = negsuc (n / 2)

-- (a + b + 1) / 2, rounded down
abbrev pub mean : ℤ → ℤ → ℤ
mean a b = halved (a +ℤ b +ℤ pos 1)

-- an omitted luminance pel: the mean of two means, each rounded by itself
abbrev pub luminance : ℤ → ℤ → ℤ → ℤ → ℤ
luminance left right above below = mean (mean left right) (mean above below)

-- an omitted pel: colour from its neighbours on the line alone
abbrev pub interpolation : Bool → ℤ → ℤ → ℤ → ℤ → ℤ
interpolation is_luminance left right above below = cond is_luminance (luminance left right above below) (mean left right)

-- a repeated pel: luminance is the mean of the two lines of the field before that lie nearest; colour
-- and burst are the far one in the first field and the near one in the second
abbrev pub repetition : Bool → Bool → ℤ → ℤ → ℤ
repetition is_luminance secondField near far = cond is_luminance (mean near far) (cond secondField near far)

-- I: X of the pel before, or of the one before that where the pel before is omitted
abbrev pub intraframe : ℤ → ℤ → Marks → ℤ
intraframe before second marks = cond marks.omitted second before

-- S1: at least two of R1 at delays w − 1, w and w + 1 are set
abbrev pub s1 : MarksAround → Bool
s1 m = let r = m.right.r1 in let a = m.above.r1 in let l = m.left.r1 in (r && a) || (a && l) || (r && l)

-- X1: B where S1 is set, otherwise M
abbrev pub x1 : Around → ℤ
x1 a = cond (s1 a.marks) a.background a.moved

-- R2 of the pel before, or of the one before that where subsampling omitted the pel before
abbrev pub r2_before : MarksAround → Bool
r2_before m = cond m.before.omitted m.second.r2 m.before.r2

-- R2 of the pel above, or of both its neighbours where subsampling omitted the pel above
abbrev pub r2_above : MarksAround → Bool
r2_above m = cond m.above.omitted (m.right.r2 && m.left.r2) m.above.r2

abbrev pub s2 : MarksAround → Bool
s2 m = r2_before m && r2_above m

-- the prediction: I where S2 is set, otherwise X1
abbrev pub prediction : Around → ℤ
prediction a = cond (s2 a.marks) a.intraframe (x1 a)

-- a whole number held to a pel's range, −128 to 127
abbrev pub hold : ℤ → ℤ
hold z = cond (int_lt z (negsuc 127)) (negsuc 127) (cond (int_lt (pos 127) z) (pos 127) z)

-- whether holding alters it
abbrev pub altered : ℤ → Bool
altered z = int_lt z (negsuc 127) || int_lt (pos 127) z

-- the sum of prediction and level value as a pel, and whether it is a held pel
abbrev pub sum : ℤ → ℤ → Sum
sum p v = record { pel = hold (p +ℤ v); held = altered (p +ℤ v) }

-- how far two pels lie apart
abbrev pub distance : ℤ → ℤ → ℕ
distance a b = unsigned_abs (a -ℤ b)

-- a lies nearer to y than b does: not so where y is at least as far from a as from b
abbrev pub nearer : ℤ → ℤ → ℤ → Bool
nearer y a b = not (nat_le (distance y b) (distance y a))

-- R1: the background is nearer to the pel than the moved picture
abbrev pub r1 : ℤ → Around → Bool
r1 y a = nearer y a.background a.moved

-- R2: the pel before is nearer to the pel than the interframe value
abbrev pub r2 : ℤ → Around → Bool
r2 y a = nearer y a.intraframe (x1 a)

abbrev pub marked : Bool → Bool → Marks
marked a b = record { r1 = a; r2 = b; omitted = false }

-- a coded pel: the sum of its prediction and its level's value, with the marks that follow from it
abbrev pub coded : ℤ → ℤ → (ℤ → Marks) → Worked
coded p v marksOf = let s = sum p v in record { x = s.pel; marks = marksOf s.pel; held = s.held }

-- outside forced lines and the burst
abbrev pub adaptive : Around → ℤ → Worked
adaptive a v = coded (prediction a) v (λ y. marked (r1 y a) (r2 y a))

-- in a forced line: predicted by I, R1 is 0 and R2 is 1
abbrev pub forced : ℤ → ℤ → Worked
forced i v = coded i v (λ _. marked false true)

-- in the burst of any other line: predicted by Y a frame before, both marks 0
abbrev pub burst : ℤ → ℤ → Worked
burst y v = coded y v (λ _. marked false false)

-- a pel that is not coded: both marks 0
abbrev pub uncoded : ℤ → Worked
uncoded x = record { x = x; marks = marked false false; held = false }

-- a pel that subsampling omits
abbrev pub skipped : Worked
skipped = record { x = pos 0; marks = record { r1 = false; r2 = false; omitted = true }; held = false }

-- one level from b towards y
abbrev pub towards : ℤ → ℤ → ℤ
towards y b = cond (int_lt b y) (b +ℤ pos 1) (cond (int_lt y b) (b -ℤ pos 1) b)

-- what the background becomes: Y in a forced line or where BRC is 0; otherwise, where BUC is 0 and Y is
-- at most 1 away from Y a frame before, one level towards Y; otherwise it stays
abbrev pub new_background : Bool → BackgroundControl → ℤ → ℤ → ℤ → ℤ
new_background is_forced c y before b =
    cond (is_forced || not c.brc) y (cond (not c.buc && nat_le (distance y before) 1) (towards y b) b)

-- a pel as a two's complement byte
abbrev pub byte : ℤ → ℕ
byte (pos n) = n
byte (negsuc n) = 255 - n
