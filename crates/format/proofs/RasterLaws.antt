-- Bounds of a raster's measures, which follow from its limits.
use Rattle.std.proofs.Common.{◌≡◌, ◌+◌, ◌*◌, ◌≤◌, refl, arith}
use Rattle.std.proofs.lemmas.Nat.{mul-le}
use Rattle.format.specs.Raster.{blocks, width, lines, frame, picture_reach, line_reach, mark_reach, word_bytes, line_levels, record_length}
use Rattle.format.specs.declared.raster.Raster.{Raster}

pub width_is : (raster : Raster) → width raster ≡ 7 + 16 * blocks raster
unfolding width
width_is raster = refl

pub width_least : (raster : Raster) → 39 ≤ width raster
width_least raster = omega (arith, width_is raster)

pub width_most : (raster : Raster) → width raster ≤ 455
width_most raster = omega (arith, width_is raster)

pub frame_is : (raster : Raster) → frame raster ≡ lines raster * width raster
unfolding frame
frame_is raster = refl

pub frame_least : (raster : Raster) → 29 * width raster ≤ frame raster
unfolding frame
frame_least raster =
    let l : 29 ≤ lines raster = omega arith in
    mul-le 29 (width raster) (lines raster) (width raster) l (omega arith)

pub picture_reach_is : (raster : Raster) → picture_reach raster ≡ frame raster + 7 * width raster + 15
unfolding picture_reach
picture_reach_is raster = refl

pub line_reach_is : (raster : Raster) → line_reach raster ≡ 2 * width raster
unfolding line_reach
line_reach_is raster = refl

pub mark_reach_is : (raster : Raster) → mark_reach raster ≡ width raster + 1
unfolding mark_reach
mark_reach_is raster = refl

pub record_length_is : (raster : Raster) → record_length raster ≡ 1 + word_bytes raster + 8 * line_levels raster
unfolding record_length
record_length_is raster = refl
