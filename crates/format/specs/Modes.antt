-- The modes of a block-line.
use Rattle.std.specs.Prelude.{ℕ, ◌+◌, ◌/◌, ◌%◌, Bool, true, false, not, ◌&&◌, ◌||◌, ◌==◌}
use Rattle.format.specs.declared.words.Head.{Head}
use Rattle.format.specs.declared.words.BlockWord.{BlockWord}

-- block 1 is the burst, pels 1 to 7; block b after it has the pels 16 b − 24 to 16 b − 9
abbrev pub block_of : ℕ → ℕ
block_of pel = (pel + 24) / 16

-- FRP 0 repeats the block-line
abbrev pub repeated : Head → Bool
repeated head = not head.frp

-- a block is subsampled where SBC is 0 or S is 1, unless the block-line is repeated
abbrev pub subsampled : Bool → Head → BlockWord → Bool
subsampled sbc head word = not (repeated head) && (not sbc || word.s)

-- subsampling omits the pels whose number and line number are not both odd or both even
abbrev pub off_quincunx : ℕ → ℕ → Bool
off_quincunx line pel = not (line % 2 == pel % 2)

-- a repeated block-line omits all its pels, and a subsampled block those that are off the quincunx
abbrev pub omits_pel : Head → Bool → ℕ → ℕ → Bool
omits_pel head thin line pel = repeated head || (thin && off_quincunx line pel)

-- CRM1 CRM2 number the pairs of lines: 00 is lines 1 and 2, 11 is lines 7 and 8
abbrev pub forced_pair : Bool → Bool → ℕ
forced_pair false false = 1
forced_pair false true = 2
forced_pair true false = 3
forced_pair true true = 4

-- IFM 0 forces all lines when DRM is 0, otherwise the pair of lines that CRM1 and CRM2 number
abbrev pub forced_line : Bool → Bool → Bool → Head → ℕ → Bool
forced_line drm crm1 crm2 head line =
    not head.ifm && (not drm || (line + 1) / 2 == forced_pair crm1 crm2)
