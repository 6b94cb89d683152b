-- How far a file is written after each record.
use Rattle.std.specs.Prelude.{ℕ, ◌+◌, Some, None}
use Rattle.terms.specs.declared.file_kind.FileKind.{FileKind}
use Rattle.terms.specs.declared.refusal.Refusal.{Refusal}
use Rattle.wire.specs.Rows.{no_totals, plus}
use Rattle.wire.specs.declared.row.Row.{Row}
use Rattle.writer.specs.declared.progress.Progress.{Progress}

-- nothing written, and nothing refused
abbrev pub blank_at : FileKind → Progress
blank_at k = record { kind = k; refused = None; len = 0; batches = 0; last = 0; totals = no_totals; held = no_totals }

-- nothing, in a file that was opened against its check
abbrev pub refused_at : FileKind → Refusal → Progress
refused_at k c = record { kind = k; refused = Some c; len = 0; batches = 0; last = 0; totals = no_totals; held = no_totals }

-- the file header
abbrev pub begun_at : FileKind → Progress
begun_at k = record { kind = k; refused = None; len = 13; batches = 0; last = 0; totals = no_totals; held = no_totals }

-- a batch header more
abbrev pub batched : Progress → ℕ → Progress
batched p n = record { kind = p.kind; refused = p.refused; len = p.len + 6; batches = p.batches; last = n; totals = p.totals; held = no_totals }

-- a row more
abbrev pub rowed : Progress → Row → Progress
rowed p r = record { kind = p.kind; refused = p.refused; len = p.len + 16; batches = p.batches; last = p.last; totals = plus p.totals r; held = plus p.held r }

-- a batch end more
abbrev pub closed_at : Progress → Progress
closed_at p = record { kind = p.kind; refused = p.refused; len = p.len + 27; batches = p.batches + 1; last = p.last; totals = p.totals; held = p.held }
