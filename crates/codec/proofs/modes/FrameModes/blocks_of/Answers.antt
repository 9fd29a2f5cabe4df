use Rattle.std.proofs.Common.{◌≡◌, ◌+◌, rules}
use Rattle.format.specs.Reader.{read_bytes}
use Rattle.codec.specs.Line.{burst_modes}
use Rattle.codec.proofs.Blocks.{of_block, blocks_all}
use Rattle.codec.proofs.Made.{made}
use Rattle.codec.proofs.modes.FrameModes.blocks_of.Goals as goal

pub returns : goal.returns
returns c =
    let a = c.args in
    let block = of_block a.self.g a.reader.raster a.sbc (read_bytes a.reader) in
    blocks_all a.self.g a.reader.raster a.sbc (read_bytes a.reader) c.from_fn.result c.from_fn.ensures.items.long
    (made _ (λ i b. b ≡ block (1 + i)) _ c.from_fn.result burst_modes 29 (λ i y q l k. search rules) c.from_fn.ensures.items)
