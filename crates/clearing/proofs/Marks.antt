-- The entries and marks of a table's places.
use Rattle.std.proofs.Common.{◌≡◌, ℕ, zero, suc, ◌+◌, ◌<◌, ◌≤◌, Bool, true, false, cond, not, ◌&&◌, List, [], ◌∷◌, length, get_or, set, sym, ap, ◌∙◌, inl, inr, arith}
use Rattle.std.proofs.lemmas.Bool.{cases_eq}
use lib.ListN.{length-map}
use Rattle.std.proofs.lemmas.List.{get_or_past, get_or-map, map-set, set-get_or, get_or-set_same, get_or-set_other}
use Rattle.clearing.specs.Choices.{Choice, no_entry, entry_at, live, share}
use Rattle.clearing.specs.Table.{entries, marks, kept}
use Rattle.clearing.specs.declared.entry.Entry.{Entry}
use Rattle.clearing.specs.declared.place.Place.{Place}
use Rattle.clearing.specs.Balances.{Without}

module _ (ps : List Place) where
  pub entry_is : (i : ℕ) (d : Place) → i < length ps → entry_at (entries ps) i ≡ (get_or ps i d).entry
  entry_is i d h = get_or-map (λ (p : Place). p.entry) ps i d no_entry h

  pub mark_is : (i : ℕ) (d : Place) → i < length ps → kept ps i ≡ (get_or ps i d).kept
  mark_is i d h = get_or-map (λ (p : Place). p.kept) ps i d false h

  pub entries_long : length (entries ps) ≡ length ps
  entries_long = length-map ps (λ (p : Place). p.entry)

  pub marks_long : length (marks ps) ≡ length ps
  marks_long = length-map ps (λ (p : Place). p.kept)

-- every entry of a table keeps to what every place keeps to
pub every_entry : (P : Entry → Type 0) → P no_entry → ((p : Place) → P p.entry) → (ps : List Place) (i : ℕ) → P (entry_at (entries ps) i)
every_entry P none each [] i = none
every_entry P none each (p ∷ ps) zero = each p
every_entry P none each (p ∷ ps) (suc i) = every_entry P none each ps i

pub payers : (ps : List Place) (i : ℕ) → (entry_at (entries ps) i).payer < 64
payers = every_entry (λ e. e.payer < 64) (omega arith) (λ p. p.pays)

pub receivers : (ps : List Place) (i : ℕ) → (entry_at (entries ps) i).receiver < 64
receivers = every_entry (λ e. e.receiver < 64) (omega arith) (λ p. p.receives)

pub worths : (ps : List Place) (i : ℕ) → (entry_at (entries ps) i).worth ≤ 100_000_000
worths = every_entry (λ e. e.worth ≤ 100_000_000) (omega arith) (λ p. p.limited)

-- a place whose entry stays
pub entries_set : (ps : List Place) (i : ℕ) (d x : Place) → i < length ps → x.entry ≡ (get_or ps i d).entry → entries (set ps i x) ≡ entries ps
entries_set ps i d x h e =
    map-set (λ (p : Place). p.entry) ps i x ∙ ap (set (entries ps) i) (e ∙ sym (entry_is ps i d h)) ∙ set-get_or (entries ps) i no_entry

pub marks_set : (ps : List Place) (i : ℕ) (x : Place) → marks (set ps i x) ≡ set (marks ps) i x.kept
marks_set ps i x = map-set (λ (p : Place). p.kept) ps i x

pub kept_here : (ps : List Place) (i : ℕ) (x : Place) → i < length ps → kept (set ps i x) i ≡ x.kept
kept_here ps i x h =
    ap (λ (bs : List Bool). get_or bs i false) (marks_set ps i x) ∙ get_or-set_same (marks ps) i x.kept false (omega (arith, marks_long ps))

pub kept_there : (ps : List Place) (i k : ℕ) (x : Place) → (k ≡ i → ⊥) → kept (set ps i x) k ≡ kept ps k
kept_there ps i k x ne = ap (λ (bs : List Bool). get_or bs k false) (marks_set ps i x) ∙ get_or-set_other (marks ps) i k x.kept false ne

-- the place at i is marked as a choice says, as those before it are
pub kept_more : (ps qs : List Place) (i : ℕ) (x : Place) (C : Choice) → i < length ps → qs ≡ set ps i x → x.kept ≡ C i → ((k : ℕ) → k < i → kept ps k ≡ C k) → (k : ℕ) → k < i + 1 → kept qs k ≡ C k
kept_more ps qs i x C within is mark before k h =
    ap (λ (zs : List Place). kept zs k) is
    ∙ elim (cases_eq k i) [
      | inl e ↦ ap (kept (set ps i x)) e ∙ kept_here ps i x within ∙ mark ∙ ap C (sym e)
      | inr ne ↦ kept_there ps i k x ne ∙ before k (omega arith)
    ]

-- past the end nothing is kept, and nothing is live
pub kept_past : (ps : List Place) (i : ℕ) → length ps ≤ i → kept ps i ≡ false
kept_past ps i h = get_or_past (marks ps) i false (omega (arith, marks_long ps))

pub live_past : (es : List Entry) (i : ℕ) → length es ≤ i → live es i ≡ false
live_past es i h = ap (λ (e : Entry). not e.returned) (get_or_past es i no_entry h)

-- one mark taken away
pub unmarked : (ps qs : List Place) (r : ℕ) → r < length ps → kept ps r ≡ true → marks qs ≡ set (marks ps) r false → Without (kept ps) (kept qs) r
unmarked ps qs r h k e = record {
  was = k;
  out = ap (λ (bs : List Bool). get_or bs r false) e ∙ get_or-set_same (marks ps) r false false (omega (arith, marks_long ps));
  others = λ i ne. ap (λ (bs : List Bool). get_or bs i false) e ∙ get_or-set_other (marks ps) r i false false ne;
}

-- what is read at a place
module _ (ps : List Place) (i : ℕ) (x : Place) (within : i < length ps) (is : x ≡ get_or ps i x) where
  pub entry_here : x.entry ≡ entry_at (entries ps) i
  entry_here = ap (λ (p : Place). p.entry) is ∙ sym (entry_is ps i x within)

  pub mark_here : x.kept ≡ kept ps i
  mark_here = ap (λ (p : Place). p.kept) is ∙ sym (mark_is ps i x within)

  -- what the place brings to a sum
  pub share_here : (which : Entry → Bool) → cond (x.kept && which x.entry) x.entry.worth 0 ≡ share which (entries ps) (kept ps) i
  share_here which = λ j. cond (mark_here j && which (entry_here j)) (entry_here j).worth 0
