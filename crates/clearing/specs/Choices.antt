-- Choices of entries, what they pay and receive, and the greatest choice that is lawful and covered.
use Rattle.std.specs.Prelude.{◌≡◌, ℕ, zero, suc, ◌+◌, ◌<◌, ◌≤◌, Bool, true, false, cond, not, ◌&&◌, List, length, ◌==◌, slice_index_or}
use Rattle.rules.specs.Order.{Order}
use Rattle.rules.specs.declared.ranking.Key.{Key}
use Rattle.clearing.specs.declared.entry.Entry.{Entry}

-- f 0 + .. + f (n - 1)
unfoldable pub up_to : (ℕ → ℕ) → ℕ → ℕ
up_to f zero = 0
up_to f (suc n) = up_to f n + f n

-- an entry that was not returned is live
abbrev pub is_live : Entry → Bool
is_live e = not e.returned

-- what stands behind the last entry: nothing live
abbrev pub no_entry : Entry
no_entry = record {
  record_type = 0;
  origin = 0;
  other = 0;
  reference = 0;
  amount = 0;
  commission = 0;
  worth = 0;
  payer = 0;
  receiver = 0;
  returnable = false;
  returned = true;
}

abbrev pub entry_at : List Entry → ℕ → Entry
entry_at es i = slice_index_or es i no_entry

-- a choice of entries, by place in the table
abbrev pub Choice : Type 0
Choice = ℕ → Bool

-- the choice of all live entries
abbrev pub live : List Entry → Choice
live es i = is_live (entry_at es i)

-- what a ranking rule sees of the entry at i: its session number is i + 1
abbrev pub key_at : List Entry → ℕ → Key
key_at es i = record { record_type = (entry_at es i).record_type; worth = (entry_at es i).worth; number = i + 1 }

-- what the entry at i brings to a sum over the entries of a choice of which something holds
abbrev pub share : (Entry → Bool) → List Entry → Choice → ℕ → ℕ
share which es C i = cond (C i && which (entry_at es i)) (entry_at es i).worth 0

-- the worth of all entries of a choice of which something holds
unfoldable pub total : (Entry → Bool) → List Entry → Choice → ℕ
total which es C = up_to (share which es C) (length es)

abbrev pub payer_of : Entry → ℕ
payer_of e = e.payer

abbrev pub receiver_of : Entry → ℕ
receiver_of e = e.receiver

-- whether the member at a place on the roll is the one on that side of the entry
abbrev pub is_on : (Entry → ℕ) → ℕ → Entry → Bool
is_on side m e = side e == m

-- the worth of a member's payments in the choice
abbrev pub paid : List Entry → Choice → ℕ → ℕ
paid es C m = total (is_on payer_of m) es C

-- the worth of its receipts
abbrev pub received : List Entry → Choice → ℕ → ℕ
received es C m = total (is_on receiver_of m) es C

-- live entries only, and with each entry all live entries of its payer that stand before it
pub record Lawful (ahead : Order) (es : List Entry) (C : Choice) : Type 0 where
  pub alive : (i : ℕ) → C i ≡ true → live es i ≡ true
  pub closed : (i j : ℕ) → C i ≡ true → live es j ≡ true → (entry_at es j).payer ≡ (entry_at es i).payer → ahead (key_at es j) (key_at es i) ≡ true → C j ≡ true

-- no member pays more than its cover and its receipts
pub record Covered (cover : ℕ → ℕ) (es : List Entry) (C : Choice) : Type 0 where
  pub covered : (m : ℕ) → m < 64 → paid es C m ≤ cover m + received es C m

-- every entry of the first choice is in the second
abbrev pub Within : Choice → Choice → Type 0
Within C D = (i : ℕ) → C i ≡ true → D i ≡ true

-- the lawful covered choice that contains every other
pub record Greatest (ahead : Order) (cover : ℕ → ℕ) (es : List Entry) (C : Choice) : Type 0 where
  pub lawful : Lawful ahead es C
  pub enough : Covered cover es C
  pub contains : (D : Choice) → Lawful ahead es D → Covered cover es D → Within D C

-- the live entries that a choice leaves out
abbrev pub left_out : List Entry → Choice → Choice
left_out es C i = live es i && not (C i)

-- how many entries a choice has
unfoldable pub size : List Entry → Choice → ℕ
size es C = up_to (λ i. cond (C i) 1 0) (length es)

-- no lawful covered choice has an entry that C leaves out
abbrev pub NowhereElse : Order → (ℕ → ℕ) → List Entry → Choice → Type 0
NowhereElse ahead cover es C = (D : Choice) → Lawful ahead es D → Covered cover es D → (i : ℕ) → left_out es C i ≡ true → D i ≡ false
