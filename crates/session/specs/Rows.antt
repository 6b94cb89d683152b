-- The rows of an accepted file: the codes 40 to 47, and what a row that is taken changes.
use Rattle.std.specs.Prelude.{ℕ, ◌+◌, Bool, true, false, cond, not, ◌&&◌, ◌||◌, List, [], ◌∷◌, ◌++◌, length, drop, is_some, Some, None, Ok, Err, Option, Result, ◌==◌, nat_le}
use Rattle.std.specs.Option.{unwrap_or}
use Rattle.terms.specs.Codes.{code}
use Rattle.terms.specs.Dockets.{Day}
use Rattle.terms.specs.Rolls.{place_in}
use Rattle.terms.specs.declared.refusal.Refusal.{Refusal}
use Rattle.terms.specs.declared.refusal.Refusal.TheVariants.{OtherMember, RecordType, NotAdmitted, ReferenceUsed, NoSuchRecord, AlreadyReturned, ReturnDiffers, ReturnCause}
use Rattle.rules.specs.Meaning.{Meaning}
use Rattle.rules.specs.declared.instrument.Denial.{Denial}
use Rattle.rules.specs.declared.instrument.Denial.TheVariants.{RecordType as of_type, Limits}
use Rattle.wire.specs.declared.row.Row.{Row}
use Rattle.wire.specs.declared.row.Row.TheVariants.{Presentation, Return}
use Rattle.wire.specs.declared.values.Presentation.{Presentation as PresentationV}
use Rattle.wire.specs.declared.values.Return.{Return as ReturnV}
use Rattle.clearing.specs.Choices.{entry_at, no_entry}
use Rattle.clearing.specs.declared.entry.Entry.{Entry}
use Rattle.table.specs.Entries.{record_in, struck}
use Rattle.session.specs.Ledger.{place_on}
use Rattle.session.specs.Refusals.{Rule, first_holding, rule, unless}
use Rattle.session.specs.Senders.{SenderValue}

-- a presentation

-- what the instrument answers to it in the session's currency
abbrev pub admission : Day → Meaning → PresentationV → Result ℕ Denial
admission day m p = m.admit p.record_type day.currency p.amount p.commission

abbrev pub type_denied : Result ℕ Denial → Bool
type_denied (Ok w) = false
type_denied (Err of_type) = true
type_denied (Err Limits) = false

abbrev pub limits_denied : Result ℕ Denial → Bool
limits_denied (Ok w) = false
limits_denied (Err of_type) = false
limits_denied (Err Limits) = true

abbrev pub worth_in : Result ℕ Denial → ℕ
worth_in (Ok w) = w
worth_in (Err d) = 0

-- the other member is off the roll or the origin
abbrev pub other_wrong : Day → SenderValue → ℕ → Bool
other_wrong day s other = not (is_some (place_in day.roll other)) || other == s.code

-- the reference is 0, or used by this origin on a record taken in
abbrev pub reference_used : SenderValue → List Entry → ℕ → Bool
reference_used s es reference = reference == 0 || is_some (record_in es s.code reference)

abbrev pub presentation_rules : Day → Meaning → SenderValue → List Entry → PresentationV → List Rule
presentation_rules day m s es p =
    (rule OtherMember (other_wrong day s p.other) ∷
    rule RecordType (type_denied (admission day m p)) ∷
    rule NotAdmitted (limits_denied (admission day m p)) ∷
    rule ReferenceUsed (reference_used s es p.reference) ∷ [])

abbrev pub presentation_refusal : Day → Meaning → SenderValue → List Entry → PresentationV → Option Refusal
presentation_refusal day m s es p = first_holding (presentation_rules day m s es p)

-- the entry of a presentation that is taken: the sender or the other member pays, and the other party receives
abbrev pub entry_for : Day → Meaning → SenderValue → PresentationV → Entry
entry_for day m s p =
    record {
      record_type = p.record_type;
      origin = s.code;
      other = p.other;
      reference = p.reference;
      amount = p.amount;
      commission = p.commission;
      worth = worth_in (admission day m p);
      payer = cond m.origin_pays s.place (place_on day.roll p.other);
      receiver = cond m.origin_pays (place_on day.roll p.other) s.place;
      returnable = m.takes_returns;
      returned = false;
    }

abbrev pub presentation_taken : Day → Meaning → SenderValue → List Entry → PresentationV → Result Entry Refusal
presentation_taken day m s es p = unless (presentation_refusal day m s es p) (entry_for day m s p)

-- a return

abbrev pub record_by : List Entry → Option ℕ → Entry
record_by es None = no_entry
record_by es (Some i) = entry_at es i

-- the record of that originator and reference
abbrev pub wanted : List Entry → ReturnV → Option ℕ
wanted es r = record_in es r.originator r.reference

-- there is such a record to this sender, and its instrument takes returns
abbrev pub can_return : SenderValue → List Entry → Option ℕ → Bool
can_return s es o = is_some o && ((record_by es o).other == s.code && (record_by es o).returnable)

abbrev pub same_sums : Entry → ReturnV → Bool
same_sums e r = e.amount == r.amount && e.commission == r.commission

-- 1 to 20, but for 12, which is the house's own cause for a withdrawn record
abbrev pub is_cause : ℕ → Bool
is_cause c = nat_le 1 c && (nat_le c 20 && not (c == 12))

abbrev pub return_refusal : SenderValue → List Entry → ReturnV → Option Refusal
return_refusal s es r =
    first_holding
    (rule NoSuchRecord (not (can_return s es (wanted es r))) ∷
    rule AlreadyReturned (record_by es (wanted es r)).returned ∷
    rule ReturnDiffers (not (same_sums (record_by es (wanted es r)) r)) ∷
    rule ReturnCause (not (is_cause r.cause)) ∷ [])

-- the place of the record that is returned
abbrev pub return_taken : SenderValue → List Entry → ReturnV → Result ℕ Refusal
return_taken s es r = unless (return_refusal s es r) (unwrap_or (wanted es r) 0)

-- a row, and the rows after one another

abbrev pub put_in : List Entry → Result Entry Refusal → Result (List Entry) Refusal
put_in es (Ok e) = Ok (es ++ (e ∷ []))
put_in es (Err c) = Err c

abbrev pub struck_in : List Entry → Result ℕ Refusal → Result (List Entry) Refusal
struck_in es (Ok i) = Ok (struck es i)
struck_in es (Err c) = Err c

-- the entries behind a row that is taken, or its code
abbrev pub row_taken : Day → Meaning → SenderValue → List Entry → Row → Result (List Entry) Refusal
row_taken day m s es (Presentation p) = put_in es (presentation_taken day m s es p)
row_taken day m s es (Return r) = struck_in es (return_taken s es r)

-- the outcome byte
abbrev pub outcome_of : {X : Type 0} → Result X Refusal → ℕ
outcome_of (Ok x) = 0
outcome_of (Err c) = code c

-- a row with a code changes nothing
abbrev pub entries_by : List Entry → Result (List Entry) Refusal → List Entry
entries_by es (Ok fs) = fs
entries_by es (Err c) = es

abbrev pub after_row : Day → Meaning → SenderValue → List Entry → Row → List Entry
after_row day m s es r = entries_by es (row_taken day m s es r)

-- the outcomes of rows: earlier ones count for later ones
abbrev pub outcomes : Day → Meaning → SenderValue → List Entry → List Row → List ℕ
outcomes day m s es [] = []
outcomes day m s es (r ∷ rs) = outcome_of (row_taken day m s es r) ∷ outcomes day m s (after_row day m s es r) rs

-- the entries behind rows
abbrev pub after_rows : Day → Meaning → SenderValue → List Entry → List Row → List Entry
after_rows day m s es [] = es
after_rows day m s es (r ∷ rs) = after_rows day m s (after_row day m s es r) rs

-- the buffer with the outcomes at its front
abbrev pub entered : Day → Meaning → SenderValue → List Entry → List Row → List ℕ → List ℕ
entered day m s es rs out = outcomes day m s es rs ++ drop (length rs) out

abbrev pub zeros : List ℕ → ℕ
zeros [] = 0
zeros (c ∷ cs) = cond (c == 0) 1 0 + zeros cs
