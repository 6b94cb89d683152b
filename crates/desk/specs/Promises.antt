-- The whole promise about any list of calls upon a newly opened session.
use Rattle.std.specs.Prelude.{◌≡◌, ℕ, ◌+◌, ◌<◌, ◌≤◌, Bool, true, false, ◌⊎◌, List, ◌++◌, length, pos}
use Rattle.terms.specs.Dockets.{Day}
use Rattle.rules.specs.Order.{Order}
use Rattle.rules.specs.declared.ranking.Key.{Key}
use Rattle.clearing.specs.Choices.{Choice, Covered, Lawful, Within, entry_at, paid, received}
use Rattle.clearing.specs.Positions.{signed_up_to}
use Rattle.clearing.specs.Table.{cover_of}
use Rattle.clearing.specs.declared.entry.Entry.{Entry}
use Rattle.session.specs.Parts.{covers_of}
use Rattle.session.specs.Questions.{mark_of, position_at}
use Rattle.session.specs.declared.session.Session.{Session}
use Rattle.session.specs.declared.session.mark.Mark.{Mark}
use Rattle.session.specs.declared.session.mark.Mark.TheVariants.{Unmarked, Kept, Withdrawn, Returned}
use Rattle.desk.specs.Books.{Calm, Meant, run, settled, unsettled}
use Rattle.desk.specs.Stands.{Stands}

abbrev pub is_kept : Mark → Bool
is_kept Unmarked = false
is_kept Kept = true
is_kept Withdrawn = false
is_kept Returned = false

-- the records that are marked kept
abbrev pub kept_in : Session → Choice
kept_in s i = is_kept (mark_of s i)

-- While the session stands cleared, each record taken in is marked returned exactly when an accepted file returned it, and else either kept
-- or withdrawn; all positions add up to zero; and no member's kept payments exceed its cover at the clearing, which the session stores,
-- plus its kept receipts.
pub record Sound (members : ℕ) (cover : ℕ → ℕ) (es : List Entry) (s : Session) : Type 0 where
  pub returned : (i : ℕ) → i < length es → (entry_at es i).returned ≡ true → mark_of s i ≡ Returned
  pub only_returned : (i : ℕ) → i < length es → mark_of s i ≡ Returned → (entry_at es i).returned ≡ true
  pub others : (i : ℕ) → i < length es → (entry_at es i).returned ≡ false → (mark_of s i ≡ Kept) ⊎ (mark_of s i ≡ Withdrawn)
  pub zero_sum : signed_up_to (position_at s) members ≡ pos 0
  pub stored : (m : ℕ) → cover_of (covers_of s) m ≡ cover m
  pub paid_for : (m : ℕ) → m < 64 → paid es (kept_in s) m ≤ cover m + received es (kept_in s) m

-- What a clearing keeps is a lawful and covered choice of unreturned records, and every other lawful and covered choice keeps no record that
-- this clearing withdrew.
pub record Best (ahead : Order) (cover : ℕ → ℕ) (es : List Entry) (s : Session) : Type 0 where
  pub lawful : Lawful ahead es (kept_in s)
  pub covered : Covered cover es (kept_in s)
  pub rivals : (D : Choice) → Lawful ahead es D → Covered cover es D → (i : ℕ) → mark_of s i ≡ Withdrawn → D i ≡ false

-- Of two places in one list of calls at which the session stands cleared, with no file accepted between them, by ranking rules of one
-- meaning and with no member's cover lower at the second: everything that is kept at the first is kept at the second.
abbrev pub Grows : Day → ℕ → List Meant → Type 0
Grows day n h =
    (f g e : List Meant) → h ≡ (f ++ g) ++ e → (a a' : Order) (c c' : ℕ → ℕ) → (run day n f).state ≡ settled a c → (run day n (f ++ g)).state ≡ settled a' c' →
    Calm (run day n f) g → ((k l : Key) → a k l ≡ a' k l) → ((m : ℕ) → m < 64 → c m ≤ c' m) →
    (s t : Session) → Stands day n f s → Stands day n (f ++ g) t → Within (kept_in s) (kept_in t)

-- the promise about a session behind the calls h
pub record Promise (day : Day) (n : ℕ) (h : List Meant) (s : Session) : Type 0 where
  pub sound : (ahead : Order) (cover : ℕ → ℕ) → (run day n h).state ≡ settled ahead cover → Sound (length day.roll) cover (run day n h).ledger.entries s
  pub best : (ahead : Order) (cover : ℕ → ℕ) → (run day n h).state ≡ settled ahead cover → Best ahead cover (run day n h).ledger.entries s
  pub idle : (run day n h).state ≡ unsettled → (i : ℕ) → mark_of s i ≡ Unmarked
  pub grows : Grows day n h
