-- What taking a file in may rely on behind the file check and the session's own checks.
use Rattle.std.proofs.Common.{◌≡◌, ℕ, ◌+◌, ◌≤◌, false, List, length, get_or, set, None, Ok, Err, sym, refl, ap, ◌∙◌, subst, arith, ltb-false}
use Rattle.terms.specs.declared.fault.Fault.{Fault}
use Rattle.terms.specs.declared.file_kind.FileKind.{FileKind}
use Rattle.terms.specs.declared.file_kind.FileKind.TheVariants.{Presentations, Returns}
use Rattle.rules.specs.Meaning.{Meaning}
use Rattle.wire.specs.Rows.{presented}
use Rattle.memberfile.specs.Judge.{judge, summary_of, summed}
use Rattle.memberfile.specs.Layout.{FileValue, all_rows}
use Rattle.memberfile.specs.Walk.{rows_in}
use Rattle.memberfile.specs.declared.check.Summary.{Summary}
use Rattle.memberfile.proofs.Summaries.{summed_err, summed_ok}
use Rattle.memberfile.proofs.Walks.{rows_said}
use Rattle.session.specs.Files.{Stood, admitted, answered, counted, entered_number, file_refusal, file_rules, ledger_after, sender_of, verdict, verdict_by, written}
use Rattle.session.specs.Ledger.{Ledger, ledger_of, numbered, numbers_in, numbers_of, place_on, with_entries}
use Rattle.session.specs.Parts.{stands_cleared}
use Rattle.session.specs.Rows.{after_rows, entered, outcomes}
use Rattle.session.specs.declared.session.FileNumbers.{FileNumbers}
use Rattle.session.specs.Senders.{SenderValue}
use Rattle.session.specs.declared.session.Session.{Session}
use Rattle.session.proofs.Orders.{NoneHolds, admitted_inv, passed, refused_inv}
use Rattle.session.proofs.Rolls.{number_entered, numbers_same}

-- a file that the check refuses
module _ (l : Ledger) (m : Meaning) (bs : List ℕ) (room : ℕ) (x : Fault) (e : Err x ≡ summed (judge bs)) where
  pub unchecked : verdict l m bs room ≡ Err x
  unchecked = ap (verdict_by l m room) (summed_err (judge bs) x e)

-- a file that the session refuses
module _ (l : Ledger) (m : Meaning) (bs : List ℕ) (room : ℕ) (sum : Summary) (x : Fault) (je : Ok sum ≡ summed (judge bs)) (ae : Err x ≡ admitted (file_refusal l m sum room) (sender_of l sum.header)) where
  pub unadmitted : verdict l m bs room ≡ Err x
  unadmitted =
      let j = summed_ok (judge bs) sum je in
      ap (verdict_by l m room) j.1 ∙ ap (λ s. admitted (file_refusal l m s room) j.0) (sym j.2) ∙ refused_inv (file_refusal l m sum room) (sender_of l sum.header) j.0 x ae

-- a refusal of the whole call
module _ (l : Ledger) (m : Meaning) (bs : List ℕ) (room : ℕ) (x : Fault) (v : verdict l m bs room ≡ Err x) where
  pub refused_answer : Err x ≡ answered l m (verdict l m bs room)
  refused_answer = sym (ap (answered l m) v)

  pub refused_ledger : l ≡ ledger_after l m (verdict l m bs room)
  refused_ledger = sym (ap (ledger_after l m) v)

  pub refused_out : (out : List ℕ) → out ≡ written l m (verdict l m bs room) out
  refused_out out = sym (ap (λ r. written l m r out) v)

  pub refused_stood : (s : Session) → Stood (verdict l m bs room) s s
  refused_stood s = subst (λ r. Stood r s s) (sym v) refl

-- a file that is taken in
module _ (l : Ledger) (m : Meaning) (bs : List ℕ) (room : ℕ) (sum : Summary) (sender : SenderValue) (je : Ok sum ≡ summed (judge bs)) (ae : Ok sender ≡ admitted (file_refusal l m sum room) (sender_of l sum.header)) where
  abbrev judged : (f : FileValue) × (judge bs ≡ Ok f) × (sum ≡ summary_of f)
  judged = summed_ok (judge bs) sum je

  abbrev pub file : FileValue
  file = judged.0

  inverted : (file_refusal l m sum room ≡ None) × (sender ≡ sender_of l sum.header)
  inverted = admitted_inv (file_refusal l m sum room) (sender_of l sum.header) sender ae

  holds_none : NoneHolds (file_rules l m sum room)
  holds_none = passed (file_rules l m sum room) inverted.0

  pub said : verdict l m bs room ≡ Ok file
  said = ap (verdict_by l m room) judged.1 ∙ ap (λ s. admitted (file_refusal l m s room) file) (sym judged.2) ∙ ap (λ o. admitted o file) inverted.0

  pub sender_is : sender ≡ sender_of l file.header
  sender_is = inverted.1 ∙ ap (λ s. sender_of l s.header) judged.2

  pub rows_are : rows_in bs ≡ all_rows file.batches
  rows_are = rows_said bs file judged.1

  pub held : length l.entries + presented (rows_in bs) ≤ l.capacity
  held = omega (arith, ltb-false _ _ holds_none.1.1.1.1.0, ap (λ s. s.presentations) judged.2, ap presented rows_are)

  pub fits : length (rows_in bs) ≤ room
  fits = omega (arith, ltb-false _ _ holds_none.1.1.1.1.1.0, ap (λ s. s.rows) judged.2, ap length rows_are)

  pub taken_answer : Ok (counted (outcomes l.day m sender l.entries (rows_in bs))) ≡ answered l m (verdict l m bs room)
  taken_answer = (λ i. Ok (counted (outcomes l.day m (sender_is i) l.entries (rows_are i)))) ∙ sym (ap (answered l m) said)

  pub taken_out : (out : List ℕ) → entered l.day m sender l.entries (rows_in bs) out ≡ written l m (verdict l m bs room) out
  taken_out out = (λ i. entered l.day m (sender_is i) l.entries (rows_are i) out) ∙ sym (ap (λ r. written l m r out) said)

  pub taken_stood : (s t : Session) → stands_cleared t ≡ false → Stood (verdict l m bs room) s t
  taken_stood s t e = subst (λ r. Stood r s t) (sym said) e

  -- the session behind the rows, with the file's number entered among the sender's
  module _ (t : Session) (e : ledger_of t ≡ with_entries l (after_rows l.day m sender l.entries (rows_in bs))) (ns : List FileNumbers) (d : FileNumbers) (is : ns ≡ set t.numbers sender.place (numbered sum.header.kind sum.header.number (get_or t.numbers sender.place d))) where
    entered_as : (k : FileKind) → numbers_in k ns ≡ entered_number k file.header.kind (place_on l.day.roll file.header.origin) file.header.number (numbers_of k (ledger_of t))
    entered_as k =
        let h = ap (λ s. s.header) judged.2 in
        let place = ap (λ s. s.place) sender_is in
        ap (numbers_in k) is ∙ number_entered k sum.header.kind sender.place sum.header.number t.numbers d ∙ (λ j. entered_number k (h j).kind (place j) (h j).number (numbers_same k t j))

    pub taken_ledger : record { day = (ledger_of t).day; capacity = (ledger_of t).capacity; entries = (ledger_of t).entries; presentations = numbers_in Presentations ns; returns = numbers_in Returns ns } ≡ ledger_after l m (verdict l m bs room)
    taken_ledger =
        (λ i. record {
          day = (e i).day;
          capacity = (e i).capacity;
          entries = (ap (λ x. x.entries) e ∙ (λ j. after_rows l.day m (sender_is j) l.entries (rows_are j))) i;
          presentations = (entered_as Presentations ∙ (λ j. entered_number Presentations file.header.kind (place_on l.day.roll file.header.origin) file.header.number (e j).presentations)) i;
          returns = (entered_as Returns ∙ (λ j. entered_number Returns file.header.kind (place_on l.day.roll file.header.origin) file.header.number (e j).returns)) i;
        }) ∙ sym (ap (ledger_after l m) said)
