-- The ledger of a session: what is known of it from the calls' arguments alone, but for the last clearing.
use Rattle.std.specs.Prelude.{ℕ, List, [], map, replicate, slice_index}
use Rattle.std.specs.Option.{unwrap_or}
use Rattle.terms.specs.Dockets.{Day, day_of}
use Rattle.terms.specs.Rolls.{place_in}
use Rattle.terms.specs.declared.file_kind.FileKind.{FileKind}
use Rattle.terms.specs.declared.file_kind.FileKind.TheVariants.{Presentations, Returns}
use Rattle.clearing.specs.declared.entry.Entry.{Entry}
use Rattle.table.specs.Entries.{capacity_of, entries_of}
use Rattle.session.specs.declared.session.FileNumbers.{FileNumbers}
use Rattle.session.specs.Parts.{docket_of, table_of}
use Rattle.session.specs.declared.session.Session.{Session}

pub record Ledger : Type 0 where
  -- date, cycle, currency and roll
  pub day : Day
  pub capacity : ℕ
  -- the records taken in, in the order of their session numbers
  pub entries : List Entry
  -- the last accepted number of files of each kind, by the origin's place on the roll
  pub presentations : List ℕ
  pub returns : List ℕ

-- a session newly opened
abbrev pub opened : Day → ℕ → Ledger
opened day capacity = record { day = day; capacity = capacity; entries = []; presentations = replicate 64 0; returns = replicate 64 0 }

-- a member's last accepted number of a kind
abbrev pub number_of : FileKind → FileNumbers → ℕ
number_of Presentations n = n.presentations
number_of Returns n = n.returns

-- a member's numbers with another of a kind
abbrev pub numbered : FileKind → ℕ → FileNumbers → FileNumbers
numbered Presentations number n = record { presentations = number; returns = n.returns }
numbered Returns number n = record { presentations = n.presentations; returns = number }

-- the last accepted numbers of a kind, by place on the roll
abbrev pub numbers_in : FileKind → List FileNumbers → List ℕ
numbers_in kind ns = map (number_of kind) ns

-- the ledger that a session bears
abbrev pub ledger_of : Session → Ledger
ledger_of s =
    record {
      day = day_of (docket_of s);
      capacity = capacity_of (table_of s);
      entries = entries_of (table_of s);
      presentations = numbers_in Presentations s.numbers;
      returns = numbers_in Returns s.numbers;
    }

abbrev pub numbers_of : FileKind → Ledger → List ℕ
numbers_of Presentations l = l.presentations
numbers_of Returns l = l.returns

-- a member's place on the roll, or 0 where it has none
abbrev pub place_on : List ℕ → ℕ → ℕ
place_on roll member = unwrap_or (place_in roll member) 0

-- the last accepted number of this origin and kind
abbrev pub last_number : Ledger → FileKind → ℕ → ℕ
last_number l kind origin = slice_index (numbers_of kind l) (place_on l.day.roll origin)

-- the ledger with other entries
abbrev pub with_entries : Ledger → List Entry → Ledger
with_entries l es = record { day = l.day; capacity = l.capacity; entries = es; presentations = l.presentations; returns = l.returns }
