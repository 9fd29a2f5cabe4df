use Rattle.std.proofs.Common.{◌≡◌}
use Rattle.codec.specs.Decoder.{frame_of}
use Rattle.codec.specs.Decoder.{block_lines}
use Rattle.framelines.specs.CodedFrames.{records_coded}
use Rattle.framelines.proofs.CodedFrom.{coded_from}
use Rattle.framelines.proofs.frames.code.code_block_lines.Given as goal

-- the block-lines that are left lead where all of them lead from the start
abbrev pub invariant-loop-i : goal.invariant-loop-i
invariant-loop-i g l =
    let meaning = g.M.EndMemories.signal in
    let tops = g.S.CharacteristicSet.tops l.set in
    let values = g.S.CharacteristicSet.values l.set in
    let numbers = g.S.CharacteristicSet.numbers l.set in
    coded_from tops values numbers l.raster l.bytes l.input l.output l.i-end l.i (frame_of l.open) l.out (meaning l.m)
    ≡ records_coded tops values numbers l.raster l.bytes 4 5 (block_lines l.raster) (frame_of l.fn.end) l.fn.out (meaning l.fn.m)
