use Rattle.std.proofs.Common.{◌≡◌, [], ◌∷◌, ap, ◌∙◌}
use Rattle.format.specs.Header.{read_header}
use Rattle.format.specs.HeaderWriting.{header_bytes}
use Rattle.format.proofs.HeaderLaws.{headers_read_back}
use Rattle.format.proofs.header.Header.write.Goals as goal

pub returns : goal.returns
returns c =
    let header = c.args.self.now in
    let written : (header.parity ∷ c.byte_of.result ∷ header.buffer_control ∷ c.byte_of-2.result ∷ header.frequency_control ∷ [])
    ≡ header_bytes header = rw (c.byte_of.ensures, c.byte_of-2.ensures) in
    record { bytes = written; read_back = ap read_header written ∙ headers_read_back header }
