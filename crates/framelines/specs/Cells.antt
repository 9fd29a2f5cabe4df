-- What the cells of an end's four memories hold.
use Rattle.std.specs.Prelude.{reverse, replicate, pos}
use Rattle.format.specs.Raster.{picture_reach, line_reach, mark_reach}
use Rattle.format.specs.declared.raster.Raster.{Raster}
use Rattle.codec.specs.Signal.{Signal, no_marks}
use Rattle.framelines.specs.declared.cells.Cells.{Cells}

-- what memories over the cells hold at first: the last cell is the newest element
abbrev pub held_in : Cells → Signal
held_in c = record { picture = reverse c.picture.items; background = reverse c.background.items; line = reverse c.line.items; marks = reverse c.marks.items }

-- pels of 0 and no marks, as far back as the memories of a raster reach
abbrev pub cleared : Raster → Signal
cleared r = record {
  picture = replicate (picture_reach r) (pos 0);
  background = replicate (picture_reach r) (pos 0);
  line = replicate (line_reach r) (pos 0);
  marks = replicate (mark_reach r) no_marks;
}
