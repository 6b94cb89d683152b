-- The bytes that a walk over rows has before it.
use Rattle.std.specs.Prelude.{ℕ, List}
use Rattle.memberfile.specs.declared.rows.Rows.{Rows}

abbrev pub bytes_left : Rows → List ℕ
bytes_left r = r.rest.now
