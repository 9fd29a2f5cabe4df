-- The measures of a raster, each a rule of the layout.
use Rattle.std.specs.Prelude.{◌≡◌, ℕ, ◌+◌, ◌-◌, ◌*◌, ◌/◌, ◌≤◌, Ok, Err, Result}
use Rattle.format.specs.declared.raster.Raster.{Raster}
use Rattle.format.specs.declared.refusal.Refusal.{Refusal}
use Rattle.format.specs.declared.refusal.Refusal.TheVariants.{RasterLimits}

-- colour blocks 1 to 4, luminance blocks 1 to 24, block-lines in each field 1 to 32
abbrev pub Limits : ℕ → ℕ → ℕ → Type 0
Limits colour luminance n = (1 ≤ colour) × (colour ≤ 4) × (1 ≤ luminance) × (luminance ≤ 24) × (1 ≤ n) × (n ≤ 32)

-- the raster has these counts
abbrev pub Counts : ℕ → ℕ → ℕ → Raster → Type 0
Counts colour luminance n raster = (raster.colour ≡ colour) × (raster.luminance ≡ luminance) × (raster.block_lines ≡ n)

-- counts within the limits give their raster, others the first refusal
abbrev pub Opens : ℕ → ℕ → ℕ → Result Raster Refusal → Type 0
Opens colour luminance n (Ok raster) = Limits colour luminance n × Counts colour luminance n raster
Opens colour luminance n (Err e) = (Limits colour luminance n → ⊥) × (e ≡ RasterLimits)

-- colour and luminance blocks of a line
abbrev pub blocks : Raster → ℕ
blocks raster = raster.colour + raster.luminance

-- seven burst pels, then sixteen of each block
unfoldable pub width : Raster → ℕ
width raster = 7 + 16 * blocks raster

-- lines of a frame
abbrev pub lines : Raster → ℕ
lines raster = 13 + 16 * raster.block_lines

-- pels of a frame
unfoldable pub frame : Raster → ℕ
frame raster = lines raster * width raster

-- reach of the picture and the background memory: a frame, seven lines and fifteen pels
unfoldable pub picture_reach : Raster → ℕ
picture_reach raster = frame raster + 7 * width raster + 15

-- reach of the line memory: two lines
unfoldable pub line_reach : Raster → ℕ
line_reach raster = 2 * width raster

-- reach of the mark memory: a line and one pel
unfoldable pub mark_reach : Raster → ℕ
mark_reach raster = width raster + 1

-- bytes of the block words: ten bits for each block, and zero bits to the end of the last byte
abbrev pub word_bytes : Raster → ℕ
word_bytes raster = (10 * blocks raster + 7) / 8

-- levels of a line: one for each pel but the first three
abbrev pub line_levels : Raster → ℕ
line_levels raster = width raster - 3

-- bytes of a record: the head, the block words, and the levels of eight lines
unfoldable pub record_length : Raster → ℕ
record_length raster = 1 + word_bytes raster + 8 * line_levels raster
