use Rattle.std.proofs.Common.{◌≡◌, ◌<◌, length, set, sym, refl, ap, ◌∙◌, arith}
use Rattle.clearing.proofs.Marks.{entry_is}
use Rattle.table.specs.Buckets.{bucket_at}
use Rattle.table.specs.Entries.{as_returned, entries_of}
use Rattle.table.proofs.Held.{changed, entry_read, entry_of, struck_past, within_items}
use Rattle.table.proofs.Indexed.{all_entries, heads_changed, links_changed, own}
use Rattle.table.proofs.table.Table.strike.Goals as goal

pub returns-then-at-self : goal.returns-then-at-self
returns-then-at-self c =
    let t = c.args.self.now in
    record {
      entries = changed t c.args.at _ c.if-at-self.true ∙ ap (λ e. set (entries_of t) c.args.at (as_returned e)) (entry_read t c.args.at c.index_mut.result.now c.if-at-self.true c.index_mut.ensures.value);
      capacity = refl;
    }

pub returns-else-at-self : goal.returns-else-at-self
returns-else-at-self c = record { entries = struck_past c.args.self.now c.args.at c.if-at-self.false; capacity = refl }

pub invariant_of-self : goal.invariant_of-self
invariant_of-self c =
    let t = c.args.self.now in
    let at = c.args.at in
    let p = c.index_mut.result.now in
    let lt : at < length t.places.items = omega (arith, within_items t) in
    let keeps : own p.entry ≡ bucket_at (all_entries t) at = ap own (ap entry_of c.index_mut.ensures.value ∙ sym (entry_is t.places.items at p lt)) in
    record { within = t.within; room = omega arith; small = t.small; led = heads_changed t at _ lt keeps; linked = links_changed t at _ lt keeps }
