-- A table of places and the covers of the members on a roll, and what a clearing of them does.
use Rattle.std.specs.Prelude.{◌≡◌, ℕ, min, Bool, false, cond, List, map, length, take, nat_lt, slice_index, slice_index_or}
use Rattle.rules.specs.Order.{Order}
use Rattle.clearing.specs.Choices.{Choice, Greatest, left_out, size}
use Rattle.clearing.specs.declared.covers.Covers.{Covers}
use Rattle.clearing.specs.declared.entry.Entry.{Entry}
use Rattle.clearing.specs.declared.place.Place.{Place}

-- the places that a clearing of the first `held` goes over
abbrev pub front : ℕ → List Place → List Place
front held ps = take (min held 4096) ps

abbrev pub entries : List Place → List Entry
entries ps = map (λ p. p.entry) ps

abbrev pub marks : List Place → List Bool
marks ps = map (λ p. p.kept) ps

-- the choice of the entries that are marked kept
abbrev pub kept : List Place → Choice
kept ps i = slice_index_or (marks ps) i false

-- the cover of the member at a place on the roll
abbrev pub cover_of : Covers → ℕ → ℕ
cover_of c m = slice_index c.amounts m

-- what a source, asked by member code, gives the member at a place on the roll; no member stands past the roll or past 64
abbrev pub cover_on_roll : (ℕ → ℕ) → List ℕ → ℕ → ℕ
cover_on_roll source roll m = cond (nat_lt m (min (length roll) 64)) (source (slice_index roll m)) 0

-- What a clearing does: the entries that it marks kept are the greatest choice, the entries themselves stay as they are, and it answers
-- how many live entries it left out.
pub record Cleared (ahead : Order) (cover : ℕ → ℕ) (old new : List Place) (n : ℕ) : Type 0 where
  pub greatest : Greatest ahead cover (entries old) (kept new)
  pub same : entries new ≡ entries old
  pub count : n ≡ size (entries old) (left_out (entries old) (kept new))
