use Rattle.std.proofs.Common.{◌≡◌, ℕ, zero, suc, ◌<◌, ◌≤◌, Bool, true, ◌&&◌, leb, List, [], ◌∷◌, length, get_or, nat_abs, sym, ap, ◌∙◌, refl, arith, rules}
use Rattle.std.specs.List.{fold, zip}
use Rattle.std.specs.Slice.Iter.{iter_rest}
use Rattle.std.proofs.lemmas.Bool.{and_parts, and_from, leb-true, le-leb}
use Rattle.std.proofs.lemmas.Iterator.{YieldsList-from_slice, YieldsList-from_zip}
use Rattle.std.proofs.lemmas.Iterator.Consumers.{fold_from_yields_List}
use Rattle.format.specs.Bits.{level_of}
use Rattle.format.proofs.record.usable.all_within.Goals as goal
use Rattle.format.proofs.record.usable.all_within.Goals.{After-fold}

abbrev one_more : Bool → ℕ × ℕ → Bool
one_more within p = within && leb (nat_abs (level_of p.0)) p.1

abbrev Fits : List ℕ → List ℕ → ℕ → Type 0
Fits levels sizes k = nat_abs (level_of (get_or levels k 0)) ≤ get_or sizes k 0

-- the flag was set before the levels, where it is set after them
before : (within : Bool) (levels sizes : List ℕ) → length levels ≤ length sizes → fold one_more within (zip levels sizes) ≡ true → within ≡ true
before within [] sizes fits set = set
before within (x ∷ levels) [] fits set = absurd (omega arith)
before within (x ∷ levels) (y ∷ sizes) fits set =
    (and_parts within (leb (nat_abs (level_of x)) y) (before (one_more within (x, y)) levels sizes (omega arith) set)).0

-- and each level is within its size
each : (within : Bool) (levels sizes : List ℕ) → length levels ≤ length sizes → fold one_more within (zip levels sizes) ≡ true
    → (k : ℕ) → k < length levels → Fits levels sizes k
each within [] sizes fits set k h = absurd (omega arith)
each within (x ∷ levels) [] fits set k h = absurd (omega arith)
each within (x ∷ levels) (y ∷ sizes) fits set zero h =
    leb-true (nat_abs (level_of x)) y (and_parts within (leb (nat_abs (level_of x)) y) (before (one_more within (x, y)) levels sizes (omega arith) set)).1
each within (x ∷ levels) (y ∷ sizes) fits set (suc k) h = each (one_more within (x, y)) levels sizes (omega arith) set k (omega arith)

-- the flag stays set where each level is within its size
all : (within : Bool) (levels sizes : List ℕ) → length levels ≤ length sizes → within ≡ true
    → ((k : ℕ) → k < length levels → Fits levels sizes k) → fold one_more within (zip levels sizes) ≡ true
all within [] sizes fits set small = set
all within (x ∷ levels) [] fits set small = absurd (omega arith)
all within (x ∷ levels) (y ∷ sizes) fits set small =
    all (one_more within (x, y)) levels sizes (omega arith)
    (and_from within (leb (nat_abs (level_of x)) y) set (le-leb (nat_abs (level_of x)) y (small 0 (omega arith))))
    (λ k h. small (suc k) (omega arith))

folded : (c : After-fold) → c.fold.result ≡ fold one_more true (zip c.args.levels.now c.args.largest.now)
folded c =
    let first = ap iter_rest c.zip.ensures.first ∙ c.iter.ensures.rest in
    fold_from_yields_List _ one_more true c.fold.result c.fold.ensures.ran
    (YieldsList-from_zip (YieldsList-from_slice c.args.levels.now first) (YieldsList-from_slice c.args.largest.now c.zip.ensures.second.0))
    (λ a x b q called. search rules)

pub returns : goal.returns
returns c =
    let e = folded (goal.at.returns c).After-fold in
    record {
      so = λ set. each true c.args.levels.now c.args.largest.now c.requires (sym e ∙ set);
      otherwise = λ small. e ∙ all true c.args.levels.now c.args.largest.now c.requires refl small;
    }
