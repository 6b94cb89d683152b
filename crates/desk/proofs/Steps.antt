-- One call upon a session does what its book says.
use Rattle.std.proofs.Common.{◌≡◌, ℕ, List, Ok, Err, Result, sym, ap, ◌∙◌, subst}
use Rattle.terms.specs.Dockets.{roll_of}
use Rattle.terms.specs.declared.fault.Fault.{Fault}
use Rattle.rules.specs.Meaning.{Meaning}
use Rattle.rules.specs.Order.{Order}
use Rattle.memberfile.specs.Layout.{FileValue}
use Rattle.clearing.specs.Choices.{Greatest, left_out, size}
use Rattle.clearing.specs.Table.{cover_on_roll}
use Rattle.clearing.specs.declared.entry.Entry.{Entry}
use Rattle.table.specs.Entries.{entries_of, kept_of}
use Rattle.session.specs.Files.{Stood, answered, ledger_after, verdict}
use Rattle.session.specs.Ledger.{Ledger, ledger_of}
use Rattle.session.specs.Parts.{docket_of, table_of}
use Rattle.session.specs.Settled.{Settled, withdrawn_in}
use Rattle.session.specs.declared.session.Session.{Session}
use Rattle.desk.specs.Books.{Book, after_sent, clears, covers_by, sends}
use Rattle.desk.specs.Stands.{Does, Keeps, Unmoved}
use Rattle.desk.specs.declared.calls.Answer.{Answer}
use Rattle.desk.specs.declared.calls.Answer.TheVariants.{Intake, Withdrawn}

-- a clearing
module _ (ahead : Order) (cover : ℕ → ℕ) (s t : Session) (n : ℕ) (same : ledger_of t ≡ ledger_of s) (done : Settled ahead (cover_on_roll cover (roll_of (docket_of s))) t) (count : n ≡ withdrawn_in t) where
  module _ (b : Book) (k : Keeps b s) where
    ledger_is : ledger_of t ≡ b.ledger
    ledger_is = same ∙ k.ledger

    roll_is : roll_of (docket_of s) ≡ b.ledger.day.roll
    roll_is = ap (λ (l : Ledger). l.day.roll) k.ledger

    settled_so : Settled ahead (covers_by b cover) t
    settled_so = subst (λ (roll : List ℕ). Settled ahead (cover_on_roll cover roll) t) roll_is done

    entries_are : entries_of (table_of t) ≡ b.ledger.entries
    entries_are = ap (λ (l : Ledger). l.entries) ledger_is

  pub settled_does : Does (clears ahead cover) s t (Withdrawn n)
  settled_does =
      record {
        keeps = λ b k. record { ledger = ledger_is b k; state = settled_so b k };
        says = λ b k. record {
          choice = kept_of (table_of t);
          greatest = subst (λ (es : List Entry). Greatest ahead (covers_by b cover) es (kept_of (table_of t))) (entries_are b k) (settled_so b k).kept;
          count = ap Withdrawn (count ∙ ap (λ (es : List Entry). size es (left_out es (kept_of (table_of t)))) (entries_are b k));
        };
      }

-- an intake
sent : (m : Meaning) (s t : Session) (b : Book) (v : Result FileValue Fault) → Keeps b s → ledger_of t ≡ ledger_after b.ledger m v → Stood v s t → Keeps (after_sent b m v) t
sent m s t b (Ok f) k e stood = record { ledger = e; state = stood }
sent m s t b (Err x) k e stood = subst (Keeps b) (sym stood) k

module _ (m : Meaning) (bytes : List ℕ) (room : ℕ) (s t : Session) (a : Answer) where
  taken_by : a ≡ Intake (answered (ledger_of s) m (verdict (ledger_of s) m bytes room)) → ledger_of t ≡ ledger_after (ledger_of s) m (verdict (ledger_of s) m bytes room) → Stood (verdict (ledger_of s) m bytes room) s t → Does (sends m bytes room) s t a
  taken_by answer left stood =
      record {
        keeps = λ b k. sent m s t b (verdict b.ledger m bytes room) k (left ∙ ap (λ (l : Ledger). ledger_after l m (verdict l m bytes room)) k.ledger) (subst (λ (l : Ledger). Stood (verdict l m bytes room) s t) k.ledger stood);
        says = λ b k. answer ∙ ap (λ (l : Ledger). Intake (answered l m (verdict l m bytes room))) k.ledger;
      }

-- the same, of an outcome buffer as long as the room
pub taken_does : (m : Meaning) (bytes : List ℕ) (k room : ℕ) (s t : Session) (a : Answer) → k ≡ room → a ≡ Intake (answered (ledger_of s) m (verdict (ledger_of s) m bytes k)) → ledger_of t ≡ ledger_after (ledger_of s) m (verdict (ledger_of s) m bytes k) → Stood (verdict (ledger_of s) m bytes k) s t → Does (sends m bytes room) s t a
taken_does m bytes k room s t a e answer left stood = subst (λ (n : ℕ). Does (sends m bytes n) s t a) e (taken_by m bytes k s t a answer left stood)

unmoved_by : (m : Meaning) (l : Ledger) (s t : Session) (v : Result FileValue Fault) (a : Answer) → Intake (answered l m v) ≡ a → Stood v s t → Unmoved a s t
unmoved_by m l s t (Ok f) a e stood = subst (λ (x : Answer). Unmoved x s t) e tt
unmoved_by m l s t (Err x) a e stood = subst (λ (y : Answer). Unmoved y s t) e stood

-- a refused file leaves the session as it was
pub unmoved : (m : Meaning) (bytes : List ℕ) (k : ℕ) (s t : Session) (a : Answer) → a ≡ Intake (answered (ledger_of s) m (verdict (ledger_of s) m bytes k)) → Stood (verdict (ledger_of s) m bytes k) s t → Unmoved a s t
unmoved m bytes k s t a e stood = unmoved_by m (ledger_of s) s t (verdict (ledger_of s) m bytes k) a (sym e) stood
