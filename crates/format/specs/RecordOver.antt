-- What a record and a front stand over.
use Rattle.std.specs.Prelude.{ℕ, List}
use Rattle.format.specs.declared.front.Front.{Front}
use Rattle.format.specs.declared.record.Record.{Record}

-- the bytes that a record stands over
abbrev pub bytes_of : Record → List ℕ
bytes_of reader = reader.bytes.now

-- the bytes that a front stands over
abbrev pub front_bytes : Front → List ℕ
front_bytes front = front.bytes.now
