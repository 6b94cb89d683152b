-- What the members are to pay of the kept entries and what they have to pay it from, and the last entry of a member.
use Rattle.std.specs.Prelude.{◌≡◌, ℕ, ◌+◌, ◌-◌, ◌<◌, ◌≤◌, true, false, List, length, ◌≢◌, Option, MatchOption, slice_index, slice_set}
use Rattle.rules.specs.Order.{Order}
use Rattle.clearing.specs.Choices.{Choice, entry_at, key_at, paid, received}
use Rattle.clearing.specs.Sums.{dues, means}
use Rattle.clearing.specs.Table.{entries, kept}
use Rattle.clearing.specs.declared.balances.Balance.{Balance}
use Rattle.clearing.specs.declared.entry.Entry.{Entry}
use Rattle.clearing.specs.declared.place.Place.{Place}

-- each member's payments, and its cover with its receipts
pub record Balanced (cover : ℕ → ℕ) (es : List Entry) (C : Choice) (due funds : List ℕ) : Type 0 where
  pub payments : (m : ℕ) → m < 64 → slice_index due m ≡ paid es C m
  pub means : (m : ℕ) → m < 64 → slice_index funds m ≡ cover m + received es C m

-- the member at m is to pay more than it has to pay it from
abbrev pub Short : List ℕ → List ℕ → ℕ → Type 0
Short due funds m = (m < 64) × (slice_index funds m < slice_index due m)

-- no member is
abbrev pub NoneShort : List ℕ → List ℕ → Type 0
NoneShort due funds = (m : ℕ) → m < 64 → slice_index due m ≤ slice_index funds m

-- a member that is short, if there is one
abbrev pub SomeShort : List Balance → Option ℕ → Type 0
SomeShort bs r = MatchOption r (NoneShort (dues bs) (means bs)) (Short (dues bs) (means bs))

-- amounts with w added to the one at m
abbrev pub raised : List ℕ → ℕ → ℕ → List ℕ
raised xs m w = slice_set xs m (slice_index xs m + w)

-- amounts with w taken from the one at m
abbrev pub lowered : List ℕ → ℕ → ℕ → List ℕ
lowered xs m w = slice_set xs m (slice_index xs m - w)

-- m has no entry in the choice among the first n
abbrev pub NoneOf : List Entry → Choice → ℕ → ℕ → Type 0
NoneOf es C m n = (i : ℕ) → i < n → C i ≡ true → (entry_at es i).payer ≢ m

-- r is the last of m's entries in the choice among the first n
pub record LastOf (ahead : Order) (es : List Entry) (C : Choice) (m n r : ℕ) : Type 0 where
  pub within : r < length es
  pub chosen : C r ≡ true
  pub own : (entry_at es r).payer ≡ m
  pub others : (i : ℕ) → i < n → C i ≡ true → (entry_at es i).payer ≡ m → (i ≢ r) → ahead (key_at es i) (key_at es r) ≡ true

-- the last of the entries of m that are kept, if it has one
abbrev pub LastKept : Order → List Place → ℕ → Option ℕ → Type 0
LastKept ahead ps m r = MatchOption r (NoneOf (entries ps) (kept ps) m (length (entries ps))) (LastOf ahead (entries ps) (kept ps) m (length (entries ps)))

-- K' is K without the entry at r, which was in it
pub record Without (K K' : Choice) (r : ℕ) : Type 0 where
  pub was : K r ≡ true
  pub out : K' r ≡ false
  pub others : (i : ℕ) → (i ≢ r) → K' i ≡ K i
