-- The entries of a held table, and how taking in and returning change them.
use Rattle.std.specs.Prelude.{ℕ, Bool, true, cond, ◌&&◌, List, length, take, Some, None, vec_items, Option, ◌==◌, nat_le, nat_lt, slice_set}
use Rattle.terms.specs.Rolls.{first_place}
use Rattle.clearing.specs.Choices.{Choice, entry_at}
use Rattle.clearing.specs.Table.{entries, kept}
use Rattle.clearing.specs.declared.entry.Entry.{Entry}
use Rattle.clearing.specs.declared.place.Place.{Place}
use Rattle.table.specs.declared.table.Table.{Table}

-- how many places are taken, and how many can be
abbrev pub held_of : Table → ℕ
held_of t = t.held

abbrev pub capacity_of : Table → ℕ
capacity_of t = t.capacity

-- the places that are taken
abbrev pub held_places : Table → List Place
held_places t = take t.held (vec_items t.places)

-- the entries taken in, by session number
abbrev pub entries_of : Table → List Entry
entries_of t = entries (held_places t)

-- the entries that the last clearing kept
abbrev pub kept_of : Table → Choice
kept_of t = kept (held_places t)

-- an entry within the limits of the house
abbrev pub is_within : Entry → Bool
is_within e = nat_lt e.payer 64 && (nat_lt e.receiver 64 && nat_le e.worth 100000000)

-- the entry that an origin presented with a reference
abbrev pub is_record : ℕ → ℕ → Entry → Bool
is_record origin reference e = e.origin == origin && e.reference == reference

-- the place of the first entry that an origin presented with a reference
abbrev pub record_in : List Entry → ℕ → ℕ → Option ℕ
record_in es origin reference = first_place (is_record origin reference) es

-- an entry once it is returned
abbrev pub as_returned : Entry → Entry
as_returned e =
    record {
      record_type = e.record_type;
      origin = e.origin;
      other = e.other;
      reference = e.reference;
      amount = e.amount;
      commission = e.commission;
      worth = e.worth;
      payer = e.payer;
      receiver = e.receiver;
      returnable = e.returnable;
      returned = true;
    }

-- the entries with the one at a place returned
abbrev pub struck : List Entry → ℕ → List Entry
struck es i = slice_set es i (as_returned (entry_at es i))

-- what stands at a place, if an entry does
abbrev pub entry_in : List Entry → ℕ → Option Entry
entry_in es i = cond (nat_lt i (length es)) (Some (entry_at es i)) None
