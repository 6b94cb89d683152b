-- What the result file of a session says, from its docket and the marks, positions and covers that its questions answer.
use Rattle.std.specs.Prelude.{ℕ, Bool, true, false, cond, List, [], ◌∷◌, length, Some, None, Option, slice_index}
use Rattle.terms.specs.Dockets.{day_of, roll_of}
use Rattle.clearing.specs.Choices.{entry_at}
use Rattle.clearing.specs.Table.{cover_of}
use Rattle.clearing.specs.declared.entry.Entry.{Entry}
use Rattle.table.specs.Entries.{entries_of}
use Rattle.session.specs.Parts.{covers_of, docket_of, table_of}
use Rattle.session.specs.Questions.{mark_of, position_at}
use Rattle.session.specs.declared.session.Session.{Session}
use Rattle.session.specs.declared.session.mark.Mark.{Mark}
use Rattle.session.specs.declared.session.mark.Mark.TheVariants.{Unmarked, Kept, Withdrawn, Returned}
use Rattle.result.specs.Gathered.{gathered}
use Rattle.result.specs.Layout.{ResultValue}
use Rattle.result.specs.declared.member_line.MemberLine.{MemberLine}

-- a member with the position and the cover at a place on the roll
abbrev pub line_of : Session → ℕ → ℕ → MemberLine
line_of s code place = record { code = code; position = position_at s place; cover = cover_of (covers_of s) place }

-- the member at a place on the roll
abbrev pub line_at : Session → ℕ → MemberLine
line_at s place = line_of s (slice_index (roll_of (docket_of s)) place) place

-- the first n members along the roll
abbrev pub lines_up_to : Session → ℕ → List MemberLine
lines_up_to s n = gathered (λ i. line_at s i ∷ []) n

-- whether a mark says withdrawn
abbrev pub is_withdrawn : Mark → Bool
is_withdrawn Unmarked = false
is_withdrawn Kept = false
is_withdrawn Withdrawn = true
is_withdrawn Returned = false

-- the entry at a place, where it is marked withdrawn
abbrev pub withdrawn_at : Session → ℕ → List Entry
withdrawn_at s i = cond (is_withdrawn (mark_of s i)) (entry_at (entries_of (table_of s)) i ∷ []) []

-- what is marked withdrawn among the first n entries
abbrev pub withdrawn_up_to : Session → ℕ → List Entry
withdrawn_up_to s n = gathered (withdrawn_at s) n

-- all members, along the roll
abbrev pub lines_of : Session → List MemberLine
lines_of s = lines_up_to s (length (roll_of (docket_of s)))

-- all withdrawn entries, by session number
abbrev pub withdrawn_of : Session → List Entry
withdrawn_of s = withdrawn_up_to s (length (entries_of (table_of s)))

-- the one entry there is, or none
abbrev pub listed : Option Entry → List Entry
listed (Some e) = e ∷ []
listed None = []

-- what the result file of a session says
abbrev pub result_of : Session → ResultValue
result_of s =
    record {
      currency = (day_of (docket_of s)).currency;
      cycle = (day_of (docket_of s)).cycle;
      date = (day_of (docket_of s)).date;
      members = lines_of s;
      withdrawn = withdrawn_of s;
    }
