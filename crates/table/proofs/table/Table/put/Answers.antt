use Rattle.std.proofs.Common.{◌≡◌, ◌<◌, true, ◌&&◌, ltb, length, sym, refl, ap, ◌∙◌, arith, rules, le-ltb, lt-ltb}
use Rattle.table.specs.Entries.{entries_of, is_within}
use Rattle.table.proofs.Held.{held_long, pushed}
use Rattle.table.proofs.Indexed.{heads_put, links_put}
use Rattle.table.proofs.table.Table.put.Goals as goal
use Rattle.table.proofs.table.Table.put.Goals.{then-not-is_within-via-then-not-is_within, then-not-is_within-via-else-not-is_within+then-held-self}

pub returns-then-not-is_within : goal.returns-then-not-is_within
returns-then-not-is_within c =
    let t = c.args.self.now in
    let roomy = ltb (length (entries_of t)) t.capacity in
    record {
      answer = elim c.then-not-is_within.branch [
        | then-not-is_within-via-then-not-is_within w ↦ ap (λ b. b && roomy) (sym w.if-not-is_within.true ∙ c.is_within.ensures)
        | then-not-is_within-via-else-not-is_within+then-held-self w ↦ sym (λ i. (sym c.is_within.ensures ∙ w.if-not-is_within.false) i && le-ltb (length (entries_of t)) t.capacity (omega (arith, held_long t, w.if-held-self.true)) i)
      ];
      entries = refl;
      capacity = refl;
    }

pub returns : goal.returns
returns c =
    let t = c.args.self.now in
    let within : true ≡ is_within c.args.entry = c.if-not-is_within.ensures in
    let roomy : true ≡ ltb (length (entries_of t)) t.capacity = sym (lt-ltb (length (entries_of t)) t.capacity (omega (arith, held_long t, c.if-held-self.false))) in
    record {
      answer = λ i. within i && roomy i;
      entries = pushed t _ (omega (arith, t.places.ok.0, t.room, c.if-held-self.false));
      capacity = refl;
    }

pub invariant_of-self : goal.invariant_of-self
invariant_of-self c =
    let t = c.args.self.now in
    let room : t.held < length t.places.items = omega (arith, t.places.ok.0, t.room, c.if-held-self.false) in
    let bucket = c.bucket_of-bucket in
    let heads : length t.index.heads ≡ 4096 = search rules in
    let links : length t.index.links ≡ 4096 = search rules in
    record {
      within = omega arith;
      room = omega arith;
      small = t.small;
      led = heads_put t _ room bucket.result bucket.ensures.value bucket.ensures.small _ heads c.enter.ensures.heads;
      linked = links_put t _ room bucket.result bucket.ensures.value bucket.ensures.small _ (omega (arith, t.small)) c.enter.ensures.links;
    }
