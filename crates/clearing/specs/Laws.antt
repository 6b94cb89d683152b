-- What holds of every greatest choice, and of the positions of every choice.
use Rattle.std.specs.Prelude.{◌≡◌, ℕ, ◌+◌, ◌<◌, ◌≤◌, List, pos, neg_ℤ}
use Rattle.rules.specs.Order.{Order}
use Rattle.rules.specs.declared.ranking.Key.{Key}
use Rattle.clearing.specs.Choices.{Choice, Greatest, NowhereElse, Within, paid, received}
use Rattle.clearing.specs.Positions.{bilateral, position, signed_up_to}
use Rattle.clearing.specs.Table.{entries}
use Rattle.clearing.specs.declared.entry.Entry.{Entry}
use Rattle.clearing.specs.declared.place.Place.{Place}

-- no lawful covered choice has an entry that the greatest one leaves out
abbrev pub LeftOutNowhereElse : Type 0
LeftOutNowhereElse = (ahead : Order) (cover : ℕ → ℕ) (es : List Entry) (C : Choice) → Greatest ahead cover es C → NowhereElse ahead cover es C

-- each member's payments in a greatest choice are at most its cover and its receipts there
abbrev pub PaymentsCovered : Type 0
PaymentsCovered =
    (ahead : Order) (cover : ℕ → ℕ) (es : List Entry) (C : Choice) → Greatest ahead cover es C → (m : ℕ) → m < 64 → paid es C m ≤ cover m + received es C m

-- two greatest choices are one
abbrev pub Unique : Type 0
Unique = (ahead : Order) (cover : ℕ → ℕ) (es : List Entry) (C D : Choice) → Greatest ahead cover es C → Greatest ahead cover es D → (i : ℕ) → C i ≡ D i

-- under rules of one meaning, and with no cover lower, what was kept stays kept
abbrev pub GrowsWithCovers : Type 0
GrowsWithCovers =
    (ahead ahead' : Order) (cover cover' : ℕ → ℕ) (es : List Entry) (C D : Choice) → ((a b : Key) → ahead a b ≡ ahead' a b) → ((m : ℕ) → m < 64 → cover m ≤ cover' m) →
    Greatest ahead cover es C → Greatest ahead' cover' es D → Within C D

-- the positions of all places on the roll add up to zero
abbrev pub PositionsCancel : Type 0
PositionsCancel = (ps : List Place) (C : Choice) → signed_up_to (position (entries ps) C) 64 ≡ pos 0

-- what a pair has between them is opposite, seen from the two sides
abbrev pub BilateralsOpposite : Type 0
BilateralsOpposite = (es : List Entry) (C : Choice) (a b : ℕ) → bilateral es C a b ≡ neg_ℤ (bilateral es C b a)

-- a member has nothing with itself
abbrev pub NothingWithItself : Type 0
NothingWithItself = (es : List Entry) (C : Choice) (a : ℕ) → bilateral es C a a ≡ pos 0

-- a member's bilateral positions add up to its position
abbrev pub BilateralsAddUp : Type 0
BilateralsAddUp = (ps : List Place) (C : Choice) (m : ℕ) → signed_up_to (bilateral (entries ps) C m) 64 ≡ position (entries ps) C m
