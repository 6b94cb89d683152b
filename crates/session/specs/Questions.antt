-- What the questions to a session answer.
use Rattle.std.specs.Prelude.{ℕ, ◌-◌, Bool, cond, not, ◌&&◌, [], ◌∷◌, length, ℤ, is_some, Result, nat_le}
use Rattle.terms.specs.Dockets.{roll_of}
use Rattle.terms.specs.Rolls.{place_in}
use Rattle.terms.specs.declared.refusal.Refusal.{Refusal}
use Rattle.terms.specs.declared.refusal.Refusal.TheVariants.{NotCleared, NotListed}
use Rattle.clearing.specs.Choices.{entry_at}
use Rattle.clearing.specs.Positions.{bilateral, position}
use Rattle.clearing.specs.Sheets.{SheetOf}
use Rattle.clearing.specs.Table.{cover_of}
use Rattle.clearing.specs.declared.sheet.Sheet.{Sheet}
use Rattle.table.specs.Entries.{entries_of, kept_of}
use Rattle.session.specs.Ledger.{place_on}
use Rattle.session.specs.Refusals.{first_holding, rule, unless}
use Rattle.session.specs.Parts.{covers_of, docket_of, stands_cleared, table_of}
use Rattle.session.specs.declared.session.Session.{Session}
use Rattle.session.specs.declared.session.mark.Mark.{Mark}
use Rattle.session.specs.declared.session.mark.Mark.TheVariants.{Unmarked, Kept, Withdrawn, Returned}

abbrev pub mark_number : Mark → ℕ
mark_number Unmarked = 0
mark_number Kept = 1
mark_number Withdrawn = 2
mark_number Returned = 3

-- the mark of the entry at a place: returned, kept or withdrawn while the session stands cleared
abbrev pub mark_of : Session → ℕ → Mark
mark_of s i = cond (stands_cleared s) (cond (entry_at (entries_of (table_of s)) i).returned Returned (cond (kept_of (table_of s) i) Kept Withdrawn)) Unmarked

-- whether there is a record of that session number, from 1
abbrev pub is_number : Session → ℕ → Bool
is_number s n = nat_le 1 n && nat_le n (length (entries_of (table_of s)))

-- the mark of a session number, or that there is none
abbrev pub mark_answer : Session → ℕ → Result Mark Refusal
mark_answer s n = unless (first_holding (rule NotListed (not (is_number s n)) ∷ [])) (mark_of s (n - 1))

abbrev pub is_member : Session → ℕ → Bool
is_member s code = is_some (place_in (roll_of (docket_of s)) code)

abbrev pub place_of : Session → ℕ → ℕ
place_of s code = place_on (roll_of (docket_of s)) code

-- the place of a member: only while cleared, and of a code on the roll
abbrev pub listed_place : Session → ℕ → Result ℕ Refusal
listed_place s code = unless (first_holding (rule NotCleared (not (stands_cleared s)) ∷ rule NotListed (not (is_member s code)) ∷ [])) (place_of s code)

-- the position of the member at a place on the roll
abbrev pub position_at : Session → ℕ → ℤ
position_at s m = position (entries_of (table_of s)) (kept_of (table_of s)) m

-- a sheet says what each member has paid and received over the kept records, and how many are withdrawn
abbrev pub SheetIn : Session → Sheet → Type 0
SheetIn s sheet = SheetOf (entries_of (table_of s)) (kept_of (table_of s)) sheet

-- the position of a member: only while cleared, and of a code on the roll
abbrev pub position_answer : Session → ℕ → Result ℤ Refusal
position_answer s code = unless (first_holding (rule NotCleared (not (stands_cleared s)) ∷ rule NotListed (not (is_member s code)) ∷ [])) (position_at s (place_of s code))

-- the position of a first member towards a second
abbrev pub bilateral_answer : Session → ℕ → ℕ → Result ℤ Refusal
bilateral_answer s a b = unless (first_holding (rule NotCleared (not (stands_cleared s)) ∷ rule NotListed (not (is_member s a && is_member s b)) ∷ [])) (bilateral (entries_of (table_of s)) (kept_of (table_of s)) (place_of s a) (place_of s b))

-- the cover that the last clearing stored for a member
abbrev pub cover_answer : Session → ℕ → Result ℕ Refusal
cover_answer s code = unless (first_holding (rule NotCleared (not (stands_cleared s)) ∷ rule NotListed (not (is_member s code)) ∷ [])) (cover_of (covers_of s) (place_of s code))
