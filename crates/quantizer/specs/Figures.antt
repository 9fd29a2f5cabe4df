-- What the table says, in figures and of every error.
use Rattle.std.specs.Prelude.{◌≡◌, ℕ, ◌<◌, ◌≤◌, List, ℤ, pos, negsuc, slice_index_or}
use Rattle.quantizer.specs.Lawful.{largest_error}
use Rattle.quantizer.specs.Table.{◌⇒◌, row_of, step_of, number_of, value_of}
use Rattle.quantizer.specs.declared.characteristic.Characteristic.{Characteristic}
use Rattle.quantizer.specs.declared.characteristic.Characteristic.TheVariants.{Q2, Q3}
use Rattle.quantizer.specs.declared.table.Step.{Step}

-- the value that stands for an error
abbrev pub stands_for : Characteristic → ℤ → ℤ
stands_for q e = value_of q (number_of q e)

-- Q3 takes -6 to 0 and -7 to -7, and Q2 takes 125 to 127
pub record Figures : Type 0 where
  pub minus_6 : stands_for Q3 (negsuc 5) ≡ pos 0
  pub minus_7 : stands_for Q3 (negsuc 6) ≡ negsuc 6
  pub plus_125 : stands_for Q2 (pos 125) ≡ pos 127

-- the largest size of error that step k holds
abbrev pub end_of : List Step → ℕ → ℕ
end_of row k = (slice_index_or row k (0 ⇒ 0)).0

-- a size m falls in step k: it is at most the step's end, and above the end of each earlier step
pub record FallsIn (row : List Step) (m k : ℕ) : Type 0 where
  pub up_to_end : m ≤ end_of row k
  pub past_earlier : (j : ℕ) → j < k → end_of row j < m

-- each size of error falls in the step that the table counts out for it
abbrev pub Ranged : Type 0
Ranged = (q : Characteristic) (m : ℕ) → m ≤ largest_error → FallsIn (row_of q) m (step_of (row_of q) m)
