-- The levels of a line, found and written one after another.
use Rattle.std.proofs.Common.{◌≡◌, ℕ, ◌+◌, ◌<◌, ◌≤◌, Bool, List, [], ◌∷◌, ◌++◌, length, get_or, take, drop, set, ℤ, pos, sym, refl, ap, ◌∙◌, arith}
use Rattle.std.proofs.lemmas.List.{append_assoc, append-nil, at_drop_more, at_drop_all, take_more_set, take_all}
use Rattle.prediction.specs.declared.marks.BackgroundControl.{BackgroundControl}
use Rattle.codec.specs.Coding.{level_at, Coded, coded, code_pels}
use Rattle.codec.specs.Line.{block_at, pels}
use Rattle.codec.specs.Step.{Course, step}
use Rattle.codec.specs.Written.{before}
use Rattle.codec.specs.declared.modes.BlockModes.{BlockModes}
use Rattle.codec.specs.declared.modes.Geometry.{Geometry}
use Rattle.codec.specs.declared.modes.LineModes.{LineModes}

module _ (number : ℤ → ℤ) (stop : Bool) (g : Geometry) (k : BackgroundControl) (l : LineModes) (blocks : List BlockModes) (value : ℕ → ℤ) where
  abbrev pub from : ℕ → List ℤ → Course → Coded
  from p zs c = code_pels number stop g k l blocks value p zs c

  -- one level more
  pub code_more : (zs : List ℤ) (ls : List ℕ) (i : ℕ) (c c' : Course) (b : BlockModes) (x : ℕ) (v : ℤ) → i < length zs → length ls ≡ length zs
      → b ≡ block_at blocks (i + 4) → x ≡ level_at number stop g l b (i + 4) (get_or zs i (pos 0)) c.signal → v ≡ value x → c' ≡ step g k l b (i + 4) v c
      → before (take (i + 1) (set ls i x)) (from (i + 1 + 4) (drop (i + 1) zs) c') ≡ before (take i ls) (from (i + 4) (drop i zs) c)
  unfolding code_pels
  code_more zs ls i c c' b x v h n eb ex ev ec =
      let next : i + 1 + 4 ≡ i + 4 + 1 = omega arith in
      let within : i < length ls = omega arith in
      let b₀ = block_at blocks (i + 4) in
      let x₀ = level_at number stop g l b₀ (i + 4) (get_or zs i (pos 0)) c.signal in
      let here : x ≡ x₀ = ex ∙ ap (λ z. level_at number stop g l z (i + 4) (get_or zs i (pos 0)) c.signal) eb in
      let after : c' ≡ step g k l b₀ (i + 4) (value x₀) c =
      ec ∙ ap (λ z. step g k l z (i + 4) v c) eb ∙ ap (λ z. step g k l b₀ (i + 4) z c) (ev ∙ ap value here) in
      let rest = from (i + 4 + 1) (drop (i + 1) zs) (step g k l b₀ (i + 4) (value x₀) c) in
      let same : from (i + 1 + 4) (drop (i + 1) zs) c' ≡ rest =
      ap (λ p. from p (drop (i + 1) zs) c') next ∙ ap (from (i + 4 + 1) (drop (i + 1) zs)) after in
      let written : take (i + 1) (set ls i x) ≡ take i ls ++ (x₀ ∷ []) =
      take_more_set ls i x within ∙ ap (λ z. take i ls ++ (z ∷ [])) here in
      ap (before (take (i + 1) (set ls i x))) same
      ∙ ap (λ z. before z rest) written
      ∙ ap (λ z. coded z rest.after) (append_assoc (take i ls) (x₀ ∷ []) rest.levels)
      ∙ sym (ap (before (take i ls)) (at_drop_more (λ ys. from (i + 4) ys c) zs i (pos 0) h))

  -- all of them
  pub code_all : (zs : List ℤ) (ls : List ℕ) (i : ℕ) (c : Course) → length zs ≤ i → length ls ≡ length zs
      → coded ls c ≡ before (take i ls) (from (i + 4) (drop i zs) c)
  unfolding code_pels
  code_all zs ls i c h n =
      let past : length ls ≤ i = omega arith in
      sym (ap (before (take i ls)) (at_drop_all (λ ys. from (i + 4) ys c) zs i h)
      ∙ ap (λ z. coded z c) (append-nil (take i ls) ∙ take_all i ls past))

  -- a coder is a decoder of the levels that it writes
  pub coded_decodes : (zs : List ℤ) (p : ℕ) (c : Course) → (from p zs c).after ≡ pels g k l blocks value p (from p zs c).levels c
  unfolding code_pels
  coded_decodes [] p c = refl
  coded_decodes (z ∷ zs) p c =
      let b = block_at blocks p in
      coded_decodes zs (p + 1) (step g k l b p (value (level_at number stop g l b p z c.signal)) c)
