-- What agrees over a frame is held alike, and cleared signals agree.
use Rattle.std.proofs.Common.{◌≡◌, ℕ, zero, suc, ◌<◌, ◌≤◌, List, [], ◌∷◌, length, take, replicate, pos, unwrap_or, sym, refl, ap, ◌∙◌, arith}
use Rattle.std.specs.List.{slice_get}
use Rattle.delay.specs.Delay.{look}
use Rattle.format.specs.Raster.{frame}
use Rattle.format.specs.declared.raster.Raster.{Raster}
use Rattle.format.proofs.RasterLaws.{picture_reach_is}
use Rattle.codec.specs.Signal.{Signal, no_marks}
use Rattle.law.specs.Law.{SameHeld, Cleared}
use Rattle.law.proofs.Through.{Reach, Agree}

module _ {X : Type 0} (e : X) where
  -- lists whose first n elements are equal begin alike
  take_same : (n : ℕ) (xs ys : List X) → n ≤ length xs → n ≤ length ys
      → ((k : ℕ) → k < n → unwrap_or (slice_get xs k) e ≡ unwrap_or (slice_get ys k) e) → take n xs ≡ take n ys
  take_same zero xs ys hx hy same = refl
  take_same (suc n) [] ys hx hy same = absurd (omega arith)
  take_same (suc n) (x ∷ xs) [] hx hy same = absurd (omega arith)
  take_same (suc n) (x ∷ xs) (y ∷ ys) hx hy same =
      let first : x ≡ y = same 0 (omega arith) in
      let rest = take_same n xs ys (omega arith) (omega arith) (λ k h. same (suc k) (omega arith)) in
      λ i. first i ∷ rest i

  -- a list of one element throughout reads as it at every place, and where nothing is
  replicate_at : (n k : ℕ) → unwrap_or (slice_get (replicate n e) k) e ≡ e
  replicate_at zero k = refl
  replicate_at (suc n) zero = refl
  replicate_at (suc n) (suc k) = replicate_at n k

  cleared_at : (xs : List X) (n : ℕ) → xs ≡ replicate (length xs) e → unwrap_or (look xs n) e ≡ e
  cleared_at xs zero h = refl
  cleared_at xs (suc n) h = ap (λ ys. unwrap_or (slice_get ys n) e) h ∙ replicate_at (length xs) n

module _ (r : Raster) (a : ℕ) (s t : Signal) where
  -- signals that agree over a frame hold the same
  pub agree_held : Reach r s → Reach r t → frame r ≤ a → Agree r a s t → SameHeld r s t
  agree_held hs ht h g =
      let reach = picture_reach_is r in
      record {
        picture = take_same (pos 0) (frame r) s.picture t.picture (omega arith) (omega arith) (λ k l. g.picture (suc k) (omega arith) (omega arith));
        background = take_same (pos 0) (frame r) s.background t.background (omega arith) (omega arith) (λ k l. g.background (suc k) (omega arith) (omega arith));
      }

  -- cleared signals agree wherever they are read
  pub cleared_agree : Cleared s → Cleared t → Agree r a s t
  cleared_agree cs ct =
      record {
        picture = λ n _ _. cleared_at (pos 0) s.picture n cs.picture ∙ sym (cleared_at (pos 0) t.picture n ct.picture);
        background = λ n _ _. cleared_at (pos 0) s.background n cs.background ∙ sym (cleared_at (pos 0) t.background n ct.background);
        line = λ n _. cleared_at (pos 0) s.line n cs.line ∙ sym (cleared_at (pos 0) t.line n ct.line);
        marks = λ n _. cleared_at no_marks s.marks n cs.marks ∙ sym (cleared_at no_marks t.marks n ct.marks);
      }
