-- What a reader is: the bytes that it stands over, and its place in them.
use Rattle.std.specs.Prelude.{ℕ, List}
use Rattle.wire.specs.declared.reader.Reader.{Reader}

abbrev pub bytes_of : Reader → List ℕ
bytes_of r = r.bytes.now

abbrev pub place_of : Reader → ℕ
place_of r = r.at
