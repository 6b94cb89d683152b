-- The parts of a session.
use Rattle.std.specs.Prelude.{Bool}
use Rattle.terms.specs.declared.docket.Docket.{Docket}
use Rattle.clearing.specs.declared.covers.Covers.{Covers}
use Rattle.table.specs.declared.table.Table.{Table}
use Rattle.session.specs.declared.session.Session.{Session}

-- the docket that it was opened with
abbrev pub docket_of : Session → Docket
docket_of s = s.docket

-- the table that it holds
abbrev pub table_of : Session → Table
table_of s = s.table

-- whether it stands cleared
abbrev pub stands_cleared : Session → Bool
stands_cleared s = s.cleared

-- the covers that the last clearing stored
abbrev pub covers_of : Session → Covers
covers_of s = s.covers
