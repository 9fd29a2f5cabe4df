-- The table of the codec's quantizing characteristics.
use Rattle.std.specs.Prelude.{ℕ, List, [], ◌∷◌, ℤ, count_by, nat_lt, slice_index_or}
use Rattle.quantizer.specs.Symmetry.{symmetrical}
use Rattle.quantizer.specs.declared.characteristic.Characteristic.{Characteristic}
use Rattle.quantizer.specs.declared.characteristic.Characteristic.TheVariants.{Q0, Q1, Q2, Q3}
use Rattle.quantizer.specs.declared.table.Step.{Step}

-- a step: it ends at an error of this size, and has this output value
infix 70 ◌⇒◌
abbrev pub ◌⇒◌ : ℕ → ℕ → Step
e ⇒ v = (e, v)

-- the steps of each characteristic, from the step of number 0 to that of the top number
abbrev pub row_of : Characteristic → List Step
row_of Q0 =
    1 ⇒ 0 ∷ 2 ⇒ 1 ∷ 3 ⇒ 2 ∷ 5 ⇒ 3 ∷ 7 ⇒ 5 ∷ 9 ⇒ 7 ∷ 11 ⇒ 10 ∷ 14 ⇒ 13 ∷ 17 ⇒ 16 ∷ 20 ⇒ 19 ∷
    23 ⇒ 22 ∷ 26 ⇒ 25 ∷ 29 ⇒ 28 ∷ 32 ⇒ 31 ∷ 37 ⇒ 35 ∷ 42 ⇒ 40 ∷ 48 ⇒ 45 ∷ 54 ⇒ 51 ∷ 60 ⇒ 57 ∷
    67 ⇒ 64 ∷ 74 ⇒ 71 ∷ 81 ⇒ 78 ∷ 88 ⇒ 85 ∷ 95 ⇒ 92 ∷ 102 ⇒ 99 ∷ 109 ⇒ 106 ∷ 116 ⇒ 113 ∷ 123 ⇒ 120 ∷
    255 ⇒ 127 ∷ []
row_of Q1 =
    3 ⇒ 0 ∷ 6 ⇒ 3 ∷ 8 ⇒ 6 ∷ 10 ⇒ 9 ∷ 13 ⇒ 12 ∷ 16 ⇒ 15 ∷ 19 ⇒ 18 ∷ 22 ⇒ 21 ∷ 26 ⇒ 24 ∷ 30 ⇒ 28 ∷
    34 ⇒ 32 ∷ 39 ⇒ 37 ∷ 44 ⇒ 42 ∷ 49 ⇒ 47 ∷ 54 ⇒ 52 ∷ 59 ⇒ 57 ∷ 64 ⇒ 62 ∷ 69 ⇒ 67 ∷ 74 ⇒ 72 ∷
    79 ⇒ 77 ∷ 84 ⇒ 82 ∷ 89 ⇒ 87 ∷ 94 ⇒ 92 ∷ 99 ⇒ 97 ∷ 104 ⇒ 102 ∷ 109 ⇒ 107 ∷ 116 ⇒ 113 ∷
    123 ⇒ 120 ∷ 255 ⇒ 127 ∷ []
row_of Q2 =
    4 ⇒ 0 ∷ 8 ⇒ 5 ∷ 12 ⇒ 10 ∷ 17 ⇒ 15 ∷ 22 ⇒ 20 ∷ 27 ⇒ 25 ∷ 32 ⇒ 30 ∷ 37 ⇒ 35 ∷ 42 ⇒ 40 ∷ 47 ⇒ 45 ∷
    52 ⇒ 50 ∷ 57 ⇒ 55 ∷ 62 ⇒ 60 ∷ 67 ⇒ 65 ∷ 72 ⇒ 70 ∷ 77 ⇒ 75 ∷ 82 ⇒ 80 ∷ 87 ⇒ 85 ∷ 92 ⇒ 90 ∷
    97 ⇒ 95 ∷ 102 ⇒ 100 ∷ 107 ⇒ 105 ∷ 112 ⇒ 110 ∷ 118 ⇒ 115 ∷ 124 ⇒ 121 ∷ 255 ⇒ 127 ∷ []
row_of Q3 =
    6 ⇒ 0 ∷ 11 ⇒ 7 ∷ 17 ⇒ 14 ∷ 24 ⇒ 21 ∷ 31 ⇒ 28 ∷ 38 ⇒ 35 ∷ 45 ⇒ 42 ∷ 52 ⇒ 49 ∷ 59 ⇒ 56 ∷ 66 ⇒ 63 ∷
    73 ⇒ 70 ∷ 80 ⇒ 77 ∷ 87 ⇒ 84 ∷ 94 ⇒ 91 ∷ 101 ⇒ 98 ∷ 108 ⇒ 105 ∷ 115 ⇒ 112 ∷ 123 ⇒ 119 ∷
    255 ⇒ 127 ∷ []

-- the top number: that of the last step
abbrev pub top_of : Characteristic → ℕ
top_of Q0 = 28
top_of Q1 = 28
top_of Q2 = 25
top_of Q3 = 18

-- how far a value may fall short of its error
abbrev pub shortfall_of : Characteristic → ℕ
shortfall_of Q0 = 3
shortfall_of Q1 = 3
shortfall_of Q2 = 4
shortfall_of Q3 = 6

-- the largest top number and the largest shortfall
abbrev pub largest_top : ℕ
largest_top = 28

abbrev pub largest_shortfall : ℕ
largest_shortfall = 6

-- the step that an error of size m falls in: as many steps as end below m come before it
abbrev pub step_of : List Step → ℕ → ℕ
step_of row m = count_by (λ s. nat_lt s.0 m) row

-- the output value of a step
abbrev pub output_of : List Step → ℕ → ℕ
output_of row k = (slice_index_or row k (0 ⇒ 0)).1

-- the level number of an error, and the value of a level number
abbrev pub number_of : Characteristic → ℤ → ℤ
number_of q = symmetrical (step_of (row_of q))

abbrev pub value_of : Characteristic → ℤ → ℤ
value_of q = symmetrical (output_of (row_of q))
