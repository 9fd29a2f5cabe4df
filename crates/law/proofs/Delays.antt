-- How far back the vectors of a usable record reach.
use Rattle.std.proofs.Common.{◌≡◌, ℕ, zero, suc, ◌+◌, ◌-◌, ◌*◌, ◌<◌, ◌≤◌, Bool, true, false, cond, ltb, leb, ◌⊎◌, List, ℤ, pos, negsuc, ◌+ℤ◌, ◌*ℤ◌, neg_ℤ, nat_abs, ◌≤ℤ◌, Some, None, sym, refl, ap, subst, inl, inr, ⊎_elim, mul_comm, arith}
use lib.IntN.{sub_ℕ}
use Rattle.std.proofs.lemmas.Nat.{mul-le}
use Rattle.std.proofs.lemmas.List.FromFn.{length-map-range_with_len, get_or-map-range_with_len}
use Rattle.std.proofs.lemmas.List.{get_or_past}
use Rattle.std.proofs.lemmas.Int.{ints}
use Rattle.std.proofs.lemmas.Bool.{and_parts, leb-true, cases_eq, cases_lt, cond_both}
use Rattle.format.specs.Modes.{block_of}
use Rattle.format.specs.Raster.{blocks, width, frame, picture_reach}
use Rattle.format.specs.Record.{head_in, word_in, has_word}
use Rattle.format.specs.Sound.{Sound}
use Rattle.format.specs.declared.raster.Raster.{Raster}
use Rattle.format.specs.declared.words.BlockWord.{BlockWord}
use Rattle.format.specs.declared.words.Head.{Head}
use Rattle.format.proofs.RasterLaws.{width_least, picture_reach_is}
use Rattle.codec.specs.Block.{geometry_of, natural, vector_delay, modes_of, most_blocks, blocks_of}
use Rattle.codec.specs.Line.{burst_modes, block_at}
use Rattle.codec.specs.declared.modes.BlockModes.{BlockModes}
use Rattle.codec.specs.declared.modes.Geometry.{Geometry}
use Rattle.codec.proofs.Blocks.{of_block}

natural_abs : (z : ℤ) → natural z ≤ nat_abs z
natural_abs (pos n) = omega arith
natural_abs (negsuc n) = omega arith

natural_sub : (a b : ℕ) → natural (sub_ℕ a b) ≤ a
natural_sub a b = cond_both (ltb a b) (negsuc (b - suc a)) (pos (a - b)) (λ z. natural z ≤ a) (λ _. omega arith) (λ _. omega arith)

natural_sum : (x y : ℤ) → natural (x +ℤ y) ≤ natural x + natural y
natural_sum (pos a) (pos b) = omega arith
natural_sum (pos a) (negsuc b) = omega (arith, natural_sub a (suc b))
natural_sum (negsuc a) (pos b) = omega (arith, natural_sub b (suc a))
natural_sum (negsuc a) (negsuc b) = omega arith

natural_negated : (n : ℕ) → natural (neg_ℤ (pos n)) ≡ 0
natural_negated zero = refl
natural_negated (suc n) = refl

natural_product : (w : ℕ) (z : ℤ) → natural (pos w *ℤ z) ≤ w * natural z
natural_product w (pos n) = omega arith
natural_product w (negsuc n) = omega (arith, natural_negated (w * suc n))

-- a vector adds at most its parts that point back
vector_least : (g : Geometry) (vx vy : ℤ) → vector_delay g vx vy ≤ g.frame + natural vx + g.width * natural vy
vector_least g vx vy =
    omega (arith, natural_sum (pos g.frame) vx, natural_sum (pos g.frame +ℤ vx) (pos g.width *ℤ vy), natural_product g.width vy)

six_or_seven : (z : ℤ) → nat_abs z ≤ 7 → (natural z ≤ 6) ⊎ (z ≡ pos 7)
six_or_seven (pos n) h =
    ⊎_elim (λ (e : n ≡ 7). inr (ap pos e)) (λ (ne : n ≡ 7 → ⊥). let least : n ≤ 6 = omega arith in inl least) (cases_eq n 7)
six_or_seven (negsuc n) h = let least : 0 ≤ 6 = omega arith in inl least

seven_or_eight : (z : ℤ) → (natural z ≤ 7) ⊎ (pos 8 ≤ℤ z)
seven_or_eight (pos n) =
    ⊎_elim (λ (l : n < 8). let least : n ≤ 7 = omega arith in inl least) (λ (l : 8 ≤ n). let more : pos 8 ≤ℤ pos n = grind (arith, ints) in inr more) (cases_lt n 8)
seven_or_eight (negsuc n) = let least : 0 ≤ 7 = omega arith in inl least

module _ (g : Geometry) (vx vy : ℤ) (across : nat_abs vx ≤ 15) (down : nat_abs vy ≤ 7) where
  -- so many lines and pels back at most
  vector_by : (lines pels : ℕ) → natural vy ≤ lines → natural vx ≤ pels → vector_delay g vx vy ≤ g.frame + lines * g.width + pels
  vector_by lines pels h k = omega (arith, vector_least g vx vy, mul-le (natural vy) g.width lines g.width h (omega arith), mul_comm g.width (natural vy))

  vector_most : vector_delay g vx vy ≤ g.frame + 7 * g.width + 15
  vector_most = vector_by 7 15 (omega (arith, natural_abs vy)) (omega (arith, natural_abs vx))

  -- no more than 7 pels and seven lines back where 8 pels with seven lines are excluded
  vector_short : 15 ≤ g.width → ((vy ≡ pos 7) × (pos 8 ≤ℤ vx) → ⊥) → vector_delay g vx vy ≤ g.frame + 7 * g.width + 7
  vector_short wide never =
      ⊎_elim
      (λ (few : natural vy ≤ 6). omega (arith, vector_by 6 15 few (omega (arith, natural_abs vx))))
      (λ (seven : vy ≡ pos 7).
      ⊎_elim (λ (few : natural vx ≤ 7). vector_by 7 7 (omega (arith, natural_abs vy)) few) (λ (many : pos 8 ≤ℤ vx). absurd (never (seven, many))) (seven_or_eight vx))
      (six_or_seven vy down)

-- the delay of the block of a pel is that of its word's vector, or 0
module _ (g : Geometry) (r : Raster) (sbc : Bool) (bytes : List ℕ) (P : ℕ → Type 0) (none : P 0) where
  modes_delay : (head : Head) (has : Bool) (word : BlockWord) → (has ≡ true → P (vector_delay g word.vx word.vy))
      → P (modes_of g sbc head (cond has (Some word) None)).delay
  modes_delay head true word some = some refl
  modes_delay head false word some = none

  block_delay : (p : ℕ) → (has_word r (block_of p) ≡ true → P (vector_delay g (word_in r bytes (block_of p)).vx (word_in r bytes (block_of p)).vy))
      → P (block_at (blocks_of g r sbc bytes) p).delay
  unfolding blocks_of
  block_delay p some =
      let b = block_of p in
      let first : 1 ≤ b = omega arith in
      let of = of_block g r sbc bytes in
      ⊎_elim
      (λ (l : b - 1 < most_blocks).
      subst (λ (m : BlockModes). P m.delay) (sym (get_or-map-range_with_len of 1 most_blocks (b - 1) b burst_modes l (omega arith)))
      (modes_delay (head_in bytes) (has_word r b) (word_in r bytes b) some))
      (λ (l : most_blocks ≤ b - 1).
      subst (λ (m : BlockModes). P m.delay) (sym (get_or_past (blocks_of g r sbc bytes) (b - 1) burst_modes (omega (arith, length-map-range_with_len of 1 most_blocks)))) none)
      (cases_lt (b - 1) most_blocks)

-- the delay at a pel of a block-line
abbrev pub delay_of : Raster → Bool → List ℕ → ℕ → ℕ
delay_of r sbc bytes p = (block_at (blocks_of (geometry_of r) r sbc bytes) p).delay

-- no vector of block 2 reaches seven lines up and 8 pels or more
abbrev pub StaysBelow : Raster → List ℕ → Type 0
StaysBelow r bytes = ((word_in r bytes 2).vy ≡ pos 7) × (pos 8 ≤ℤ (word_in r bytes 2).vx) → ⊥

module _ (r : Raster) (sbc : Bool) (top : ℕ) (bytes : List ℕ) (s : Sound r sbc top bytes) where
  -- no vector reaches further back than picture and background
  pub delay_within : (p : ℕ) → delay_of r sbc bytes p ≤ picture_reach r
  delay_within p =
      let g = geometry_of r in
      let b = block_of p in
      block_delay g r sbc bytes (λ d. d ≤ picture_reach r) (omega arith) p
      (λ has. omega (arith, picture_reach_is r, vector_most g (word_in r bytes b).vx (word_in r bytes b).vy (s.horizontal b has) (s.vertical b has)))

  -- where no vector of block 2 reaches above, none reaches above the line of the pel
  pub delay_below : StaysBelow r bytes → (p : ℕ) → delay_of r sbc bytes p ≤ frame r + 7 * width r + (p - 1)
  delay_below never p =
      let g = geometry_of r in
      let b = block_of p in
      let most = frame r + 7 * width r + (p - 1) in
      block_delay g r sbc bytes (λ d. d ≤ most) (omega arith) p
      (λ has.
      let vx = (word_in r bytes b).vx in
      let vy = (word_in r bytes b).vy in
      let across = s.horizontal b has in
      let down = s.vertical b has in
      let low = leb-true 2 b (and_parts (leb 2 b) (leb b (blocks r + 1)) has).0 in
      ⊎_elim
      (λ (two : b ≡ 2).
      let free = subst (λ (k : ℕ). ((word_in r bytes k).vy ≡ pos 7) × (pos 8 ≤ℤ (word_in r bytes k).vx) → ⊥) (sym two) never in
      let short = vector_short g vx vy across down (omega (arith, width_least r)) free in
      omega arith)
      (λ (other : b ≡ 2 → ⊥).
      let far = vector_most g vx vy across down in
      omega arith)
      (cases_eq b 2))
