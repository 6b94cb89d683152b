use Rattle.std.proofs.Common.{◌≡◌, ℕ, min, List, length, take, sym, refl, ap, ◌∙◌, subst, subst₂, arith}
use Rattle.std.proofs.lemmas.List.{with_items_is}
use Rattle.std.specs.Vec.{with_items}
use Rattle.clearing.specs.Table.{Cleared, cover_of, entries}
use Rattle.clearing.specs.declared.entry.Entry.{Entry}
use Rattle.clearing.specs.declared.place.Place.{Place}
use Rattle.table.proofs.Held.{front_held}
use Rattle.table.proofs.Indexed.{heads_same, links_same}
use Rattle.table.proofs.table.Table.clear.Goals as goal

pub returns : goal.returns
returns g c =
    let t = c.args.self.now in
    let ws = c.clear.new.places in
    let after = sym (with_items_is t.places ws (omega (arith, ap length c.deref_mut.ensures.value))) in
    let old : List Place → List Place → ℕ → Type 0 = λ x y n. Cleared (g.R.Ranking.ahead c.args.rule.now) (cover_of c.args.covers.now) (take n x) (take n y) c.clear.result in
    record {
      cleared = subst (λ n. old t.places.items (with_items t.places ws).items n) (front_held t) (subst₂ (λ x y. old x y (min t.held 4096)) c.deref_mut.ensures.value after c.clear.ensures.cleared);
      capacity = refl;
    }

pub invariant_of-self : goal.invariant_of-self
invariant_of-self g c =
    let t = c.args.self.now in
    let qs = (with_items t.places c.clear.new.places).items in
    let front : List Place → List Entry = λ x. entries (take (min t.held 4096) x) in
    let same = ap front (with_items_is t.places c.clear.new.places (omega (arith, ap length c.deref_mut.ensures.value))) ∙ c.clear.ensures.cleared.same ∙ ap front c.deref_mut.ensures.value in
    let held = subst (λ n. entries (take n qs) ≡ entries (take n t.places.items)) (front_held t) same in
    record { within = t.within; room = omega arith; small = t.small; led = heads_same t qs held; linked = links_same t qs held }
