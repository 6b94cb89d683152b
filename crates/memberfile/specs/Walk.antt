-- The rows in bytes, by the records' lengths alone.
use Rattle.std.specs.Prelude.{◌≡◌, ℕ, zero, suc, List, [], ◌∷◌, ◌++◌, length, drop, Some, None, Ok, Err, Option, Result}
use Rattle.std.specs.Option.{option_to_list}
use Rattle.terms.specs.declared.refusal.Refusal.{Refusal}
use Rattle.wire.specs.Records.{Piece, first_record}
use Rattle.wire.specs.Values.{presentation_in, return_in}
use Rattle.wire.specs.declared.record.Tag.{Tag}
use Rattle.wire.specs.declared.record.Tag.TheVariants.{FileHeader, BatchHeader, Presentation as t_presentation, Return as t_return, BatchEnd, FileEnd}
use Rattle.wire.specs.declared.row.Row.{Row}
use Rattle.wire.specs.declared.row.Row.TheVariants.{Presentation, Return}
use Rattle.memberfile.specs.Judge.{gone}

abbrev pub row_by : Tag → List ℕ → Option Row
row_by FileHeader v = None
row_by BatchHeader v = None
row_by t_presentation v = Some (Presentation (presentation_in v))
row_by t_return v = Some (Return (return_in v))
row_by BatchEnd v = None
row_by FileEnd v = None

-- the row that a record is
abbrev pub row_of : Piece → Option Row
row_of p = row_by p.tag p.value

-- a record's row before those that follow; bytes that begin with no record have none
abbrev pub walked_by : Result Piece Refusal → List Row → List Row
walked_by (Ok p) rs = option_to_list (row_of p) ++ rs
walked_by (Err c) rs = []

-- the rows of the first k records
abbrev pub walked : ℕ → List ℕ → List Row
walked zero bs = []
walked (suc k) bs = walked_by (first_record bs) (walked k (drop (gone bs) bs))

-- the rows in the bytes
unfoldable pub rows_in : List ℕ → List Row
rows_in bs = walked (length bs) bs

-- a first row taken off rows that are left
abbrev pub Parted : Option Row → List Row → List Row → Type 0
Parted (Some r) rs left = rs ≡ r ∷ left
Parted None rs left = rs ≡ []
