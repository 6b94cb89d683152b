-- What it is for a session to stand as its calls left it.
use Rattle.std.specs.Prelude.{◌≡◌, ℕ, false, List, Ok, Err}
use Rattle.terms.specs.Dockets.{Day}
use Rattle.session.specs.Ledger.{ledger_of}
use Rattle.session.specs.Parts.{stands_cleared}
use Rattle.session.specs.Settled.{Settled}
use Rattle.session.specs.declared.session.Session.{Session}
use Rattle.desk.specs.Books.{Book, Meant, Says, State, after, run, settled, unsettled}
use Rattle.desk.specs.declared.calls.Answer.{Answer}
use Rattle.desk.specs.declared.calls.Answer.TheVariants.{Intake, Withdrawn}

-- the session bears how the book says that it stands
abbrev pub Bears : State → Session → Type 0
Bears unsettled s = stands_cleared s ≡ false
Bears (settled ahead cover) s = Settled ahead cover s

-- the session is as the book says
pub record Keeps (b : Book) (s : Session) : Type 0 where
  pub ledger : ledger_of s ≡ b.ledger
  pub state : Bears b.state s

-- the call m takes the session from s to t and is answered a, whatever book s keeps
pub record Does (m : Meant) (s t : Session) (a : Answer) : Type 0 where
  pub keeps : (b : Book) → Keeps b s → Keeps (after b m) t
  pub says : (b : Book) → Keeps b s → Says b m a

-- a refused call leaves the session as it was, all of it
abbrev pub Unmoved : Answer → Session → Session → Type 0
Unmoved (Intake (Ok t)) old new = Unit {0}
Unmoved (Intake (Err x)) old new = new ≡ old
Unmoved (Withdrawn n) old new = Unit {0}

-- the session is what the calls h leave of one newly opened for that day with that capacity
abbrev pub Stands : Day → ℕ → List Meant → Session → Type 0
Stands day capacity h s = Keeps (run day capacity h) s
