-- The index of a held table: what a look-up goes by, and that it stays right as entries are changed or taken in.
use Rattle.std.proofs.Common.{◌≡◌, ℕ, suc, ◌+◌, ◌<◌, ◌≤◌, Bool, true, eqb, List, length, get_or, take, set, Option, sym, ap, ◌∙◌, subst, inl, inr, arith}
use Rattle.std.proofs.lemmas.List.{get_or-set_other, get_or-set_same, get_or-take, length-set, map-set, take-map}
use Rattle.std.proofs.lemmas.Bool.{and_parts, cases_eq, eqb-true}
use Rattle.clearing.specs.Choices.{entry_at, no_entry}
use Rattle.clearing.specs.Table.{entries}
use Rattle.clearing.specs.declared.entry.Entry.{Entry}
use Rattle.clearing.specs.declared.place.Place.{Place}
use Rattle.clearing.proofs.Marks.{entry_is}
use Rattle.table.specs.Buckets.{Heads, Links, bucket_at, bucket_of, last_below}
use Rattle.table.specs.Entries.{entries_of, is_record}
use Rattle.table.specs.declared.table.Table.{Table}
use Rattle.table.proofs.Chains.{from, heads_more, heads_stay, last_is, last_low, links_more, links_stay, none_between}
use Rattle.table.proofs.Held.{entry_of, held_long}

abbrev pub own : Entry → ℕ
own e = bucket_of e.origin e.reference

-- the entry at each place of the table, held or not
abbrev pub all_entries : Table → List Entry
all_entries t = entries t.places.items

-- an entry held is the one at its place
entry_held : (n : ℕ) (ps : List Place) (j : ℕ) → j < n → entry_at (entries (take n ps)) j ≡ entry_at (entries ps) j
entry_held n ps j lt = ap (λ (es : List Entry). entry_at es j) (sym (take-map entry_of n ps)) ∙ get_or-take n (entries ps) j no_entry lt

module _ (t : Table) (origin reference : ℕ) where
  abbrev at : ℕ → ℕ
  at = bucket_at (all_entries t)

  abbrev bucket : ℕ
  bucket = bucket_of origin reference

  abbrev wanted : Entry → Bool
  wanted = is_record origin reference

  -- the record stands in its bucket
  in_bucket : (j : ℕ) → j < length (entries_of t) → wanted (entry_at (entries_of t) j) ≡ true → at j ≡ bucket
  in_bucket j lt is =
      let e = entry_at (entries_of t) j in
      let parts = and_parts (eqb e.origin origin) (eqb e.reference reference) is in
      ap own (sym (entry_held t.held t.places.items j (omega (arith, held_long t)))) ∙ (λ i. bucket_of (eqb-true e.origin origin parts.0 i) (eqb-true e.reference reference parts.1 i))

  -- A look-up that has been through the places from n on may go on at the last below n that is in the bucket.
  pub chained : (n next : ℕ) (found : Option ℕ) → n ≤ t.held → next ≡ last_below at bucket n → found ≡ from wanted (entries_of t) n →
      (next ≤ t.held) × ((k : ℕ) → next ≡ suc k → at k ≡ bucket) × (found ≡ from wanted (entries_of t) next)
  chained n next found h is here = (
    omega (arith, is, last_low at bucket n),
    λ k e. last_is at bucket n k (sym is ∙ e),
    here ∙ sym (none_between at bucket wanted (entries_of t) in_bucket n (omega (arith, held_long t))) ∙ ap (from wanted (entries_of t)) (sym is),
  )

-- where the entries held stay as they are, the index stays right
module _ (t : Table) (ps : List Place) (same : entries (take t.held ps) ≡ entries_of t) where
  as_before : (j : ℕ) → j < t.held → bucket_at (all_entries t) j ≡ bucket_at (entries ps) j
  as_before j lt = ap own (sym (entry_held t.held t.places.items j lt) ∙ ap (λ (es : List Entry). entry_at es j) (sym same) ∙ entry_held t.held ps j lt)

  pub heads_same : Heads t.index.heads (entries ps) t.held
  heads_same = heads_stay (all_entries t) (entries ps) t.held as_before t.index.heads t.led

  pub links_same : Links t.index.links (entries ps) t.held
  links_same = links_stay (all_entries t) (entries ps) t.held as_before t.index.links t.linked

module _ (t : Table) (i : ℕ) (x : Place) (room : i < length t.places.items) where
  -- the entries with another one at place i
  abbrev after : List Entry
  after = entries (set t.places.items i x)

  there : bucket_at after i ≡ own x.entry
  there = ap own (entry_is (set t.places.items i x) i x (omega (arith, length-set t.places.items i x)) ∙ ap entry_of (get_or-set_same t.places.items i x x room))

  elsewhere : (j : ℕ) → (j ≡ i → ⊥) → bucket_at (all_entries t) j ≡ bucket_at after j
  elsewhere j ne = ap own (sym (ap (λ (es : List Entry). entry_at es j) (map-set entry_of t.places.items i x) ∙ get_or-set_other (all_entries t) i j x.entry no_entry ne))

  -- an entry that is changed and keeps its bucket
  module _ (keeps : own x.entry ≡ bucket_at (all_entries t) i) where
    everywhere : (j : ℕ) → j < t.held → bucket_at (all_entries t) j ≡ bucket_at after j
    everywhere j lt =
        elim (cases_eq j i) [
          | inl e ↦ ap (bucket_at (all_entries t)) e ∙ sym keeps ∙ sym there ∙ ap (bucket_at after) (sym e)
          | inr ne ↦ elsewhere j ne
        ]

    pub heads_changed : Heads t.index.heads after t.held
    heads_changed = heads_stay (all_entries t) after t.held everywhere t.index.heads t.led

    pub links_changed : Links t.index.links after t.held
    links_changed = links_stay (all_entries t) after t.held everywhere t.index.links t.linked

-- an entry that is put behind the others and entered into its bucket
module _ (t : Table) (x : Place) (room : t.held < length t.places.items) (bucket : ℕ) (is : bucket ≡ own x.entry) (low : bucket < 4096) where
  abbrev more : List Entry
  more = after t t.held x room

  below : (j : ℕ) → j < t.held → bucket_at (all_entries t) j ≡ bucket_at more j
  below j lt = elsewhere t t.held x room j (λ e. omega arith)

  its_own : bucket ≡ bucket_at more t.held
  its_own = is ∙ sym (there t t.held x room)

  pub heads_put : (heads : List ℕ) → length t.index.heads ≡ 4096 → heads ≡ set t.index.heads bucket (t.held + 1) → Heads heads more (t.held + 1)
  heads_put heads long are =
      subst (λ hs. Heads hs more (t.held + 1)) (sym (are ∙ ap (λ b. set t.index.heads b (t.held + 1)) its_own))
      (heads_more (all_entries t) more t.held below t.index.heads long t.led)

  pub links_put : (links : List ℕ) → t.held < length t.index.links → links ≡ set t.index.links t.held (get_or t.index.heads bucket 0) → Links links more (t.held + 1)
  links_put links long are =
      subst (λ ls. Links ls more (t.held + 1)) (sym (are ∙ ap (λ b. set t.index.links t.held (get_or t.index.heads b 0)) its_own))
      (links_more (all_entries t) more t.held below t.index.heads t.index.links long (omega (arith, its_own)) t.led t.linked)
