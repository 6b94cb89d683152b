-- What a book holds.
use Rattle.std.specs.Prelude.{List, take}
use Rattle.rules.specs.declared.book.Book.{Book}
use Rattle.rules.specs.declared.book.Report.{Report}

-- the reports in use, one for each code
abbrev pub held_in : Book → List Report
held_in b = take b.held b.reports
