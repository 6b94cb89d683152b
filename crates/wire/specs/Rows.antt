-- The rows of batches, their file kinds and their totals.
use Rattle.std.specs.Prelude.{ℕ, ◌+◌, ◌*◌, ◌≤◌, Bool, true, false, ◌&&◌, List, [], ◌∷◌, ◌==◌}
use Rattle.terms.specs.declared.file_kind.FileKind.{FileKind}
use Rattle.terms.specs.declared.file_kind.FileKind.TheVariants.{Presentations, Returns}
use Rattle.wire.specs.declared.values.Totals.{Totals}
use Rattle.wire.specs.declared.row.Row.{Row}
use Rattle.wire.specs.declared.row.Row.TheVariants.{Presentation, Return}

-- rows of this tag stand in files of a kind
abbrev pub is_of : FileKind → Row → Bool
is_of Presentations (Presentation p) = true
is_of Presentations (Return p) = false
is_of Returns (Presentation p) = false
is_of Returns (Return p) = true

-- the other member or the originator
abbrev pub party : Row → ℕ
party (Presentation p) = p.other
party (Return p) = p.originator

abbrev pub amount : Row → ℕ
amount (Presentation p) = p.amount
amount (Return p) = p.amount

abbrev pub commission : Row → ℕ
commission (Presentation p) = p.commission
commission (Return p) = p.commission

-- how many presentations a row is
abbrev pub presentations : Row → ℕ
presentations (Presentation p) = 1
presentations (Return p) = 0

-- how many presentations there are
abbrev pub presented : List Row → ℕ
presented [] = 0
presented (r ∷ rs) = presentations r + presented rs

abbrev pub no_totals : Totals
no_totals = record { count = 0; amounts = 0; commissions = 0; parties = 0 }

-- totals with one row more
abbrev pub plus : Totals → Row → Totals
plus t r = record { count = t.count + 1; amounts = t.amounts + amount r; commissions = t.commissions + commission r; parties = t.parties + party r }

-- totals t and rows added to them
abbrev pub tally : Totals → List Row → Totals
tally t [] = t
tally t (r ∷ rs) = tally (plus t r) rs

abbrev pub same_totals : Totals → Totals → Bool
same_totals s t = s.count == t.count && (s.amounts == t.amounts && (s.commissions == t.commissions && s.parties == t.parties))

-- the sums are no more than so many rows can make
abbrev pub Even : Totals → Type 0
Even t = (t.amounts ≤ t.count * 4294967296) × (t.commissions ≤ t.count * 65536) × (t.parties ≤ t.count * 65536)
