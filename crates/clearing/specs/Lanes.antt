-- The chosen entries of each payer in lanes: four lanes to a member, each rising by rank from its bottom to its top. A top or what lies
-- below an entry is told as its session number, and 0 where there is none.
use Rattle.std.specs.Prelude.{◌≡◌, ℕ, ◌+◌, ◌-◌, ◌*◌, ◌%◌, ◌<◌, ◌≤◌, Bool, true, false, ◌&&◌, ◌||◌, ◌⊎◌, List, length, ◌==◌, nat_lt, slice_index}
use Rattle.rules.specs.Order.{Order}
use Rattle.clearing.specs.Choices.{Choice, entry_at, key_at}
use Rattle.clearing.specs.Table.{entries}
use Rattle.clearing.specs.declared.entry.Entry.{Entry}
use Rattle.clearing.specs.declared.place.Place.{Place}

-- the entry of the second number stands behind that of the first, or there is none of the first
abbrev pub comes_after : Order → List Entry → ℕ → ℕ → Bool
comes_after ahead es a b = nat_lt 0 b && (a == 0 || ahead (key_at es (a - 1)) (key_at es (b - 1)))

-- the lane is one of the member's four
abbrev pub LaneOf : ℕ → ℕ → Type 0
LaneOf m l = (m * 4 ≤ l) × (l < m * 4 + 4)

-- of the member's lanes none has a top behind that of lane l
pub record Topmost (ahead : Order) (es : List Entry) (tops : List ℕ) (m n l : ℕ) : Type 0 where
  pub lane : LaneOf m l
  pub others : (k : ℕ) → m * 4 ≤ k → k < n → comes_after ahead es (slice_index tops l) (slice_index tops k) ≡ false

-- the chosen ones of the first n entries lie in lanes
pub record Laned (ahead : Order) (es : List Entry) (C : Choice) (n : ℕ) (tops below : List ℕ) : Type 0 where
  pub lane : ℕ → ℕ
  pub own : (i : ℕ) → i < n → C i ≡ true → LaneOf (entry_at es i).payer (lane i)
  -- each is the top of its lane, or lies right below another of it
  pub on : (i : ℕ) → i < n → C i ≡ true → (slice_index tops (lane i) ≡ i + 1) ⊎ ((j : ℕ) × (j < n) × (C j ≡ true) × (lane j ≡ lane i) × (slice_index below j ≡ i + 1))
  -- a top is one of them
  pub top : (l t : ℕ) → l < 256 → slice_index tops l ≡ t + 1 → (t < n) × (C t ≡ true) × (lane t ≡ l)
  -- and so is what lies below one, and stands before it
  pub under : (j u : ℕ) → j < n → C j ≡ true → slice_index below j ≡ u + 1 → (u < j) × (C u ≡ true) × (lane u ≡ lane j) × (ahead (key_at es u) (key_at es j) ≡ true)

-- no member uses more than the first `widest` of its lanes
abbrev pub Narrow : List ℕ → ℕ → Type 0
Narrow tops widest = (l : ℕ) → widest ≤ l % 4 → slice_index tops l ≡ 0

-- all chosen entries lie in lanes
abbrev pub AllLaned : Order → List Place → Choice → List ℕ → List ℕ → Type 0
AllLaned ahead ps C tops below = Laned ahead (entries ps) C (length (entries ps)) tops below
