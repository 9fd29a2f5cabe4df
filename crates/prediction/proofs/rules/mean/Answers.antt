use Rattle.std.proofs.Common.{◌≡◌, ℤ, pos, negsuc, ◌+ℤ◌, ◌/◌, ap, ◌∙◌, arith, w8, w16, SFits, to_z, of_z}
use lib.Signed.{shr_z}
use Rattle.std.proofs.lemmas.Int.{ints, to_z-of_z}
use Rattle.prediction.specs.Rules.{halved, mean}
use Rattle.prediction.proofs.rules.mean.Goals as goal

-- a sum of two pels and 1, shifted and cast, is its half rounded down
shifted : (a b s : ℤ) → SFits w8 a → SFits w8 b → s ≡ a +ℤ b +ℤ pos 1 → to_z w8 (of_z w8 (to_z w16 (of_z w16 (shr_z s 2)))) ≡ mean a b
shifted a b (pos n) f g e =
    let fits : to_z w8 (of_z w8 (to_z w16 (of_z w16 (pos (n / 2))))) ≡ pos (n / 2) = omega (arith, ints) in
    fits ∙ ap halved e
shifted a b (negsuc n) f g e =
    let fits : to_z w8 (of_z w8 (to_z w16 (of_z w16 (negsuc (n / 2))))) ≡ negsuc (n / 2) = omega (arith, ints) in
    fits ∙ ap halved e

pub overflow_cast-result : goal.overflow_cast-result
overflow_cast-result c =
    let a : c.from.result ≡ c.args.a = c.from.ensures ∙ to_z-of_z w8 c.args.a c.ranges.a in
    let b : c.from-2.result ≡ c.args.b = c.from-2.ensures ∙ to_z-of_z w8 c.args.b c.ranges.b in
    grind (arith, ints)

pub returns : goal.returns
returns c =
    let a : c.from.result ≡ c.args.a = c.from.ensures ∙ to_z-of_z w8 c.args.a c.ranges.a in
    let b : c.from-2.result ≡ c.args.b = c.from-2.ensures ∙ to_z-of_z w8 c.args.b c.ranges.b in
    shifted c.args.a c.args.b _ c.ranges.a c.ranges.b (omega (arith, ints))
