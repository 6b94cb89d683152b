use Rattle.std.proofs.Common.{◌≡◌}
use Rattle.std.specs.Iterator.Adapters.{enumerate_count, enumerate_source}
use Rattle.memberfile.specs.Walk.{rows_in}
use Rattle.session.specs.Ledger.{ledger_of, with_entries}
use Rattle.session.proofs.Going.{Going}
use Rattle.session.proofs.session.Session.take_rows.Given as goal

abbrev pub invariant-loop-at : goal.invariant-loop-at
invariant-loop-at g l =
    Going (ledger_of l.initial.self).day (g.I.Instrument.meaning l.instrument) l.sender (ledger_of l.initial.self).capacity (ledger_of l.initial.self).entries (rows_in l.file) l.initial.out (rows_in (enumerate_source l.at-iterator).rest.now) (ledger_of l.self).entries l.out (enumerate_count l.at-iterator) l.counts.taken l.counts.turned_away ×
    (ledger_of l.self ≡ with_entries (ledger_of l.initial.self) (ledger_of l.self).entries)
