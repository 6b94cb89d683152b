-- A file against the session: the codes 30 to 35, what the call answers, and what it leaves.
use Rattle.std.specs.Prelude.{◌≡◌, ℕ, ◌+◌, ◌-◌, Bool, true, false, not, ◌&&◌, List, [], ◌∷◌, length, is_some, Some, None, Ok, Err, Option, Result, ◌==◌, nat_lt, slice_set}
use Rattle.terms.specs.Codes.{session_fault}
use Rattle.terms.specs.Dockets.{Day}
use Rattle.terms.specs.Numbers.{currency_number, cycle_number}
use Rattle.terms.specs.Rolls.{place_in}
use Rattle.terms.specs.declared.fault.Fault.{Fault}
use Rattle.terms.specs.declared.file_kind.FileKind.{FileKind}
use Rattle.terms.specs.declared.file_kind.FileKind.TheVariants.{Presentations, Returns}
use Rattle.terms.specs.declared.refusal.Refusal.{Refusal}
use Rattle.terms.specs.declared.refusal.Refusal.TheVariants.{NotThisSession, OriginOffRoll, FileNumber, ReturnsNotTaken, CapacityExceeded, OutcomesShort}
use Rattle.rules.specs.Meaning.{Meaning}
use Rattle.memberfile.specs.Judge.{Verdict, judge, summary_of}
use Rattle.memberfile.specs.Layout.{FileValue, all_rows}
use Rattle.memberfile.specs.declared.check.Summary.{Summary}
use Rattle.memberfile.specs.declared.header.Header.{Header}
use Rattle.session.specs.Ledger.{Ledger, last_number, place_on}
use Rattle.session.specs.Refusals.{Rule, first_holding, rule}
use Rattle.session.specs.Rows.{after_rows, entered, outcomes, zeros}
use Rattle.session.specs.Senders.{SenderValue}
use Rattle.session.specs.Parts.{stands_cleared}
use Rattle.session.specs.declared.session.Session.{Session}
use Rattle.session.specs.declared.session.Taken.{Taken}

-- date, cycle and currency are the session's
abbrev pub is_of_day : Day → Header → Bool
is_of_day day h = h.date == day.date && (cycle_number h.cycle == cycle_number day.cycle && currency_number h.currency == currency_number day.currency)

abbrev pub is_returns : FileKind → Bool
is_returns Presentations = false
is_returns Returns = true

-- whether the file number is one above the last accepted
abbrev pub is_next : Ledger → Header → Bool
is_next l h = h.number == last_number l h.kind h.origin + 1

-- the rules of a file that passed the check against the session, for an outcome buffer of `room` bytes
abbrev pub file_rules : Ledger → Meaning → Summary → ℕ → List Rule
file_rules l m f room =
    (rule NotThisSession (not (is_of_day l.day f.header)) ∷
    rule OriginOffRoll (not (is_some (place_in l.day.roll f.header.origin))) ∷
    rule FileNumber (not (is_next l f.header)) ∷
    rule ReturnsNotTaken (is_returns f.header.kind && not m.takes_returns) ∷
    rule CapacityExceeded (nat_lt l.capacity (length l.entries + f.presentations)) ∷
    rule OutcomesShort (nat_lt room f.rows) ∷ [])

-- why the session refuses the file
abbrev pub file_refusal : Ledger → Meaning → Summary → ℕ → Option Refusal
file_refusal l m f room = first_holding (file_rules l m f room)

-- what is taken, unless the session refuses the whole file
abbrev pub admitted : {X : Type 0} → Option Refusal → X → Result X Fault
admitted None x = Ok x
admitted (Some c) x = Err (session_fault c)

abbrev pub verdict_by : Ledger → Meaning → ℕ → Verdict → Result FileValue Fault
verdict_by l m room (Ok f) = admitted (file_refusal l m (summary_of f) room) f
verdict_by l m room (Err x) = Err x

-- the file that is taken in from the bytes, or why none is: first the file check, then the session
abbrev pub verdict : Ledger → Meaning → List ℕ → ℕ → Result FileValue Fault
verdict l m bytes room = verdict_by l m room (judge bytes)

abbrev pub sender_of : Ledger → Header → SenderValue
sender_of l h = record { code = h.origin; place = place_on l.day.roll h.origin }

-- the outcomes of a file's rows
abbrev pub outcomes_in : Ledger → Meaning → FileValue → List ℕ
outcomes_in l m f = outcomes l.day m (sender_of l f.header) l.entries (all_rows f.batches)

abbrev pub counted : List ℕ → Taken
counted cs = record { taken = zeros cs; turned_away = length cs - zeros cs }

-- what the call answers
abbrev pub answered : Ledger → Meaning → Result FileValue Fault → Result Taken Fault
answered l m (Ok f) = Ok (counted (outcomes_in l m f))
answered l m (Err x) = Err x

abbrev pub entered_number : FileKind → FileKind → ℕ → ℕ → List ℕ → List ℕ
entered_number Presentations Presentations place number ns = slice_set ns place number
entered_number Presentations Returns place number ns = ns
entered_number Returns Presentations place number ns = ns
entered_number Returns Returns place number ns = slice_set ns place number

-- the ledger behind an accepted file: its number is entered by origin and kind, and its rows are taken in
abbrev pub after_file : Ledger → Meaning → FileValue → Ledger
after_file l m f =
    record {
      day = l.day;
      capacity = l.capacity;
      entries = after_rows l.day m (sender_of l f.header) l.entries (all_rows f.batches);
      presentations = entered_number Presentations f.header.kind (place_on l.day.roll f.header.origin) f.header.number l.presentations;
      returns = entered_number Returns f.header.kind (place_on l.day.roll f.header.origin) f.header.number l.returns;
    }

-- the ledger behind the call: a refused one changes nothing
abbrev pub ledger_after : Ledger → Meaning → Result FileValue Fault → Ledger
ledger_after l m (Ok f) = after_file l m f
ledger_after l m (Err x) = l

-- the outcome buffer behind the call
abbrev pub written : Ledger → Meaning → Result FileValue Fault → List ℕ → List ℕ
written l m (Ok f) out = entered l.day m (sender_of l f.header) l.entries (all_rows f.batches) out
written l m (Err x) out = out

-- how the session stands behind the call: an accepted file ends the cleared state, and a refusal leaves the session as it was
abbrev pub Stood : Result FileValue Fault → Session → Session → Type 0
Stood (Ok f) old new = stands_cleared new ≡ false
Stood (Err x) old new = new ≡ old
