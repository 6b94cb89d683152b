-- What the calls that write the example make of a file, by the room that there is.
use Rattle.std.specs.Prelude.{ℕ}
use Rattle.exactness.specs.Example.{example_file}
use Rattle.wire.specs.declared.row.Row.{Row}
use Rattle.wire.specs.declared.row.Row.TheVariants.{Presentation}
use Rattle.writer.specs.Drafts.{FileDraft, closed, extended, opened, started}

-- a transfer to member 7 with 500 céntimos
abbrev pub transfer : Row
transfer = Presentation (record { record_type = 220; other = 7; reference = 1; amount = 500; commission = 0 })

-- a file opened, a batch opened, the transfer put, the batch closed
abbrev pub example_draft : ℕ → FileDraft
example_draft room = closed (extended room (started room (opened room example_file.header) 1) transfer)
