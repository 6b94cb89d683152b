-- The book of a session, kept from the meanings of the calls alone.
use Rattle.std.specs.Prelude.{◌≡◌, ℕ, List, [], ◌∷◌, Ok, Err, fold, Result}
use Rattle.terms.specs.Dockets.{Day}
use Rattle.terms.specs.declared.fault.Fault.{Fault}
use Rattle.rules.specs.Meaning.{Meaning}
use Rattle.rules.specs.Order.{Order}
use Rattle.memberfile.specs.Layout.{FileValue}
use Rattle.clearing.specs.Choices.{Choice, Greatest, left_out, size}
use Rattle.clearing.specs.Table.{cover_on_roll}
use Rattle.clearing.specs.declared.entry.Entry.{Entry}
use Rattle.session.specs.Files.{after_file, answered, verdict}
use Rattle.session.specs.Ledger.{Ledger, opened}
use Rattle.desk.specs.declared.calls.Answer.{Answer}
use Rattle.desk.specs.declared.calls.Answer.TheVariants.{Intake, Withdrawn}

-- what a call means: an instrument, a file's bytes and the room for outcomes, or a ranking rule and the cover of each member code
pub data Meant : Type 0 where
  sends : Meaning → List ℕ → ℕ → Meant
  clears : Order → (ℕ → ℕ) → Meant

-- how the session stands: not cleared, or cleared by a ranking rule and covers, by places on the roll
pub data State : Type 0 where
  unsettled : State
  settled : Order → (ℕ → ℕ) → State

pub record Book : Type 0 where
  pub ledger : Ledger
  pub state : State

-- the book of a session newly opened
abbrev pub fresh : Day → ℕ → Book
fresh day capacity = record { ledger = opened day capacity; state = unsettled }

-- an accepted file ends the cleared state; a refused one changes nothing
abbrev pub after_sent : Book → Meaning → Result FileValue Fault → Book
after_sent b m (Ok f) = record { ledger = after_file b.ledger m f; state = unsettled }
after_sent b m (Err x) = b

-- the cover of each place on the roll of the book's day
abbrev pub covers_by : Book → (ℕ → ℕ) → ℕ → ℕ
covers_by b cover = cover_on_roll cover b.ledger.day.roll

-- the book behind a call
abbrev pub after : Book → Meant → Book
after b (sends m bytes room) = after_sent b m (verdict b.ledger m bytes room)
after b (clears ahead cover) = record { ledger = b.ledger; state = settled ahead (covers_by b cover) }

-- the book behind a list of calls upon a session newly opened
abbrev pub run : Day → ℕ → List Meant → Book
run day capacity h = fold after (fresh day capacity) h

-- a clearing's answer is the number of live entries that the greatest choice leaves out
pub record Counted (ahead : Order) (cover : ℕ → ℕ) (es : List Entry) (a : Answer) : Type 0 where
  pub choice : Choice
  pub greatest : Greatest ahead cover es choice
  pub count : a ≡ Withdrawn (size es (left_out es choice))

-- what the book answers to a call
abbrev pub Says : Book → Meant → Answer → Type 0
Says b (sends m bytes room) a = a ≡ Intake (answered b.ledger m (verdict b.ledger m bytes room))
Says b (clears ahead cover) a = Counted ahead (covers_by b cover) b.ledger.entries a

-- one answer for each call
abbrev pub Told : Book → List Meant → List Answer → Type 0
Told b [] [] = Unit {0}
Told b [] (a ∷ r) = ⊥
Told b (m ∷ ms) [] = ⊥
Told b (m ∷ ms) (a ∷ r) = Says b m a × Told (after b m) ms r

abbrev pub RefusedFile : Result FileValue Fault → Type 0
RefusedFile (Ok f) = ⊥
RefusedFile (Err x) = Unit {0}

-- no file is accepted by the call
abbrev pub IsCalm : Book → Meant → Type 0
IsCalm b (sends m bytes room) = RefusedFile (verdict b.ledger m bytes room)
IsCalm b (clears ahead cover) = Unit {0}

-- nor by any of a list of calls
abbrev pub Calm : Book → List Meant → Type 0
Calm b [] = Unit {0}
Calm b (m ∷ ms) = IsCalm b m × Calm (after b m) ms
