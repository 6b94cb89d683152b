-- The entries of a held table, place by place.
use Rattle.std.proofs.Common.{◌≡◌, ℕ, ◌+◌, ◌<◌, ◌≤◌, min, false, cond, [], ◌∷◌, ◌++◌, length, get_or, take, set, Some, None, sym, ap, ◌∙◌, arith, le-ltb, lt-ltb}
use lib.Seq.{take-set-lt}
use Rattle.std.proofs.lemmas.List.{get_or-take, length-take-le, map_push, map-set, set_past, take_more_set}
use Rattle.clearing.specs.Choices.{entry_at}
use Rattle.clearing.specs.Table.{entries}
use Rattle.clearing.specs.declared.entry.Entry.{Entry}
use Rattle.clearing.specs.declared.place.Place.{Place}
use Rattle.clearing.proofs.Marks.{entries_long, entry_is, kept_past, mark_is}
use Rattle.table.specs.Entries.{as_returned, entries_of, entry_in, held_places, kept_of, struck}
use Rattle.table.specs.declared.table.Table.{Table}

abbrev pub entry_of : Place → Entry
entry_of p = p.entry

pub within_items : (t : Table) → t.held ≤ length t.places.items
within_items t = omega (arith, t.places.ok.0, t.room, t.within)

pub held_places_lem : (t : Table) → length (held_places t) ≡ t.held
held_places_lem t = length-take-le t.held t.places.items (within_items t)

pub held_long : (t : Table) → length (entries_of t) ≡ t.held
held_long t = entries_long (held_places t) ∙ held_places_lem t

module _ (t : Table) (at : ℕ) (x : Place) (lt : at < t.held) (is : x ≡ get_or t.places.items at x) where
  here : x ≡ get_or (held_places t) at x
  here = is ∙ sym (get_or-take t.held t.places.items at x lt)

  -- what is read at a place is the entry there
  pub entry_read : x.entry ≡ entry_at (entries_of t) at
  entry_read = ap entry_of here ∙ sym (entry_is (held_places t) at x (omega (arith, held_places_lem t)))

  pub kept_read : x.kept ≡ kept_of t at
  kept_read = ap (λ (p : Place). p.kept) here ∙ sym (mark_is (held_places t) at x (omega (arith, held_places_lem t)))

  pub entry_some : Some x.entry ≡ entry_in (entries_of t) at
  entry_some = ap Some entry_read ∙ sym (ap (λ b. cond b (Some (entry_at (entries_of t) at)) None) (lt-ltb at (length (entries_of t)) (omega (arith, held_long t))))

pub entry_none : (t : Table) (at : ℕ) → t.held ≤ at → None ≡ entry_in (entries_of t) at
entry_none t at h = sym (ap (λ b. cond b (Some (entry_at (entries_of t) at)) None) (le-ltb at (length (entries_of t)) (omega (arith, held_long t))))

pub kept_none : (t : Table) (at : ℕ) → t.held ≤ at → false ≡ kept_of t at
kept_none t at h = sym (kept_past (held_places t) at (omega (arith, held_places_lem t)))

-- one entry more behind the others
pub pushed : (t : Table) (x : Place) → t.held < length t.places.items → entries (take (t.held + 1) (set t.places.items t.held x)) ≡ entries_of t ++ (x.entry ∷ [])
pushed t x lt = ap entries (take_more_set t.places.items t.held x lt) ∙ map_push entry_of (held_places t) x

-- an entry changed among the others
pub changed : (t : Table) (at : ℕ) (x : Place) → at < t.held → entries (take t.held (set t.places.items at x)) ≡ set (entries_of t) at x.entry
changed t at x lt = ap entries (take-set-lt t.held t.places.items at x lt) ∙ map-set entry_of (held_places t) at x

pub struck_past : (t : Table) (at : ℕ) → t.held ≤ at → entries_of t ≡ struck (entries_of t) at
struck_past t at h = sym (set_past (entries_of t) at (as_returned (entry_at (entries_of t) at)) (omega (arith, held_long t)))

pub front_held : (t : Table) → min t.held 4096 ≡ t.held
front_held t = omega (arith, t.within, t.small)
