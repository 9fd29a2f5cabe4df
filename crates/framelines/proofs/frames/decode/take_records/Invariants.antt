use Rattle.std.proofs.Common.{◌≡◌}
use Rattle.codec.specs.Decoder.{frame_of, block_lines}
use Rattle.format.specs.Raster.{record_length}
use Rattle.framelines.specs.Frames.{records}
use Rattle.framelines.proofs.Records.{records_from}
use Rattle.framelines.proofs.frames.decode.take_records.Given as goal

-- the records that are left lead where all of them lead from the start
abbrev pub invariant-loop-i : goal.invariant-loop-i
invariant-loop-i g l =
    let meaning = g.M.EndMemories.signal in
    let tops = g.S.CharacteristicSet.tops l.set in
    let values = g.S.CharacteristicSet.values l.set in
    records_from tops values l.bytes l.length l.i-end l.i (frame_of l.open) (meaning l.m)
    ≡ records tops values l.bytes (record_length l.fn.raster) 5 (block_lines l.fn.raster) (frame_of l.fn.end) (meaning l.fn.m)
