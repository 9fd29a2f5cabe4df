-- Turns of the loops over reset pels, pending pels and levels.
use Rattle.std.proofs.Common.{◌≡◌, ℕ, suc, ◌+◌, ◌-◌, ◌<◌, ◌≤◌, Bool, List, [], ◌∷◌, length, get_or, drop, ℤ, pos, sym, refl, ap, ◌∙◌, arith}
use Rattle.std.proofs.lemmas.List.{at_drop_all}
use Rattle.codec.specs.Line.{resets, flush, pels, block_at}
use Rattle.codec.specs.Modes.{pel_is_luminance}
use Rattle.codec.specs.Signal.{Signal, with_reset}
use Rattle.codec.specs.Step.{Course, enter_y, settled, step}
use Rattle.prediction.specs.declared.marks.BackgroundControl.{BackgroundControl}
use Rattle.codec.specs.declared.modes.BlockModes.{BlockModes}
use Rattle.codec.specs.declared.modes.Geometry.{Geometry}
use Rattle.codec.specs.declared.modes.LineModes.{LineModes}

-- what is left of a count, before and after one turn
pub left_before : (n i : ℕ) → i < n → n - i ≡ suc (n - (i + 1))
left_before n i h = omega arith

pub left_none : (n i : ℕ) → n ≤ i → n - i ≡ 0
left_none n i h = omega arith

-- one reset pel more
pub resets_more : (n i : ℕ) (s : Signal) → i < n → resets (n - i) s ≡ resets (n - (i + 1)) (with_reset s)
resets_more n i s h = ap (λ k. resets k s) (left_before n i h)

module _ (g : Geometry) (k : BackgroundControl) (is_forced : Bool) where
  -- one pending pel more
  pub flush_more : (p : ℕ) (c c' : Course) (y : ℤ) → 1 ≤ p → p ≤ g.width
      → y ≡ settled g (pel_is_luminance g p) (g.width + 1 - p) (pos 0) c.signal.line c.signal.marks
      → c' ≡ enter_y g k is_forced y c
      → flush g k is_forced (g.width + 1 - (p + 1)) c' ≡ flush g k is_forced (g.width + 1 - p) c
  flush_more p c c' y low high ey ec =
      let d : ℕ = g.width + 1 - (p + 1) in
      let here : p ≡ g.width - d = omega arith in
      let back : g.width + 1 - p ≡ suc d = omega arith in
      let same : y ≡ settled g (pel_is_luminance g (g.width - d)) (suc d) (pos 0) c.signal.line c.signal.marks =
      ey
      ∙ ap (λ n. settled g (pel_is_luminance g n) (g.width + 1 - p) (pos 0) c.signal.line c.signal.marks) here
      ∙ ap (λ n. settled g (pel_is_luminance g (g.width - d)) n (pos 0) c.signal.line c.signal.marks) back in
      ap (flush g k is_forced d) (ec ∙ ap (λ z. enter_y g k is_forced z c) same) ∙ sym (ap (λ n. flush g k is_forced n c) back)

module _ (g : Geometry) (k : BackgroundControl) (l : LineModes) (blocks : List BlockModes) (value : ℕ → ℤ) where
  -- the same values of all level bytes lead to the same
  pub pels_same : (other : ℕ → ℤ) → ((x : ℕ) → x < 256 → value x ≡ other x)
      → (p : ℕ) (xs : List ℕ) (c : Course) → ((i : ℕ) → get_or xs i 0 < 256)
      → pels g k l blocks value p xs c ≡ pels g k l blocks other p xs c
  pels_same other same p [] c low = refl
  pels_same other same p (x ∷ xs) c low =
      ap (λ v. pels g k l blocks value (p + 1) xs (step g k l (block_at blocks p) p v c)) (same x (low 0))
      ∙ pels_same other same (p + 1) xs (step g k l (block_at blocks p) p (other x) c) (λ i. low (suc i))

  pub pels_all : (xs : List ℕ) (i : ℕ) (c : Course) → length xs ≤ i → c ≡ pels g k l blocks value (i + 4) (drop i xs) c
  pels_all xs i c h = sym (at_drop_all (λ ys. pels g k l blocks value (i + 4) ys c) xs i h)
