use Rattle.std.proofs.Common.{rules, sym, ap, ◌∙◌}
use Rattle.std.proofs.Output.{has_written_of_eq}
use Rattle.framelines.specs.Text.{entry_text}
use Rattle.framelines.proofs.Hexadecimal.{frame_printed}
use Rattle.framelines.proofs.entry.EntryDisplay.fmt.Goals as goal

pub returns-in-Frame-clause-writes : goal.returns-in-Frame-clause-writes
returns-in-Frame-clause-writes g c plain ok =
    let line = c.in-Frame in
    has_written_of_eq _ _ _ _ _
    (frame_printed line.number line.parity line.planes line.held (search rules) (search rules) ∙ ap entry_text (sym line.is))
    (search rules)
