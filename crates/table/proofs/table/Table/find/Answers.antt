use Rattle.std.proofs.Common.{◌≡◌, ◌<◌, suc, add-one, sym, ap, ◌∙◌, arith}
use Rattle.clearing.specs.Choices.{no_entry}
use Rattle.terms.proofs.Places.{place_here, place_none, place_on_lem}
use Rattle.table.specs.Buckets.{bucket_at, last_below, name_of}
use Rattle.table.specs.Entries.{entries_of, is_record}
use Rattle.table.proofs.Chains.{from, last_low}
use Rattle.table.proofs.Held.{entry_read, held_long}
use Rattle.table.proofs.Indexed.{all_entries, chained}
use Rattle.table.proofs.table.Table.find.Goals as goal
use Rattle.table.proofs.table.Table.find.Goals.{then-is_record, else-is_record}

pub loop-next-init : goal.loop-next-init
loop-next-init c =
    let t = c.args.self.now in
    chained t c.args.origin c.args.reference t.held _ _ (omega arith)
    (c.last_in-next.ensures ∙ t.led c.bucket_of.result c.bucket_of.ensures.small ∙ ap (λ b. last_below (bucket_at (all_entries t)) b t.held) c.bucket_of.ensures.value)
    (sym (place_none (is_record c.args.origin c.args.reference) t.held (entries_of t) (omega (arith, held_long t))))

pub loop-next-smaller : goal.loop-next-smaller
loop-next-smaller c =
    let t = c.args.self.now in
    let at = c.in-Some.at in
    let named : name_of c.loop-next.next ≡ suc at = ap name_of c.in-Some.is in
    omega (arith, c.previous-next.ensures, t.linked at (omega (arith, c.loop-next.invariant.0)), last_low (bucket_at (all_entries t)) (bucket_at (all_entries t) at) at)

pub loop-next-preserved : goal.loop-next-preserved
loop-next-preserved c =
    let t = c.args.self.now in
    let es = entries_of t in
    let wanted = is_record c.args.origin c.args.reference in
    let at = c.in-Some.at in
    let named : name_of c.loop-next.next ≡ suc at = ap name_of c.in-Some.is in
    let below : at < t.held = omega (arith, c.loop-next.invariant.0) in
    let here = ap wanted (sym (entry_read t at c.index.result.now below c.index.ensures)) ∙ sym c.is_record.ensures in
    let found : c.if-is_record.found ≡ from wanted es at =
    elim c.if-is_record.branch [
      | then-is_record w ↦ w.found-is ∙ sym (place_here wanted at es no_entry (omega (arith, held_long t)) (here ∙ w.if-is_record.true))
      | else-is_record w ↦ w.found-is ∙ c.loop-next.invariant.2 ∙ ap (from wanted es) (named ∙ sym (add-one at)) ∙ sym (place_on_lem wanted at es no_entry (omega (arith, held_long t)) (here ∙ w.if-is_record.false))
    ] in
    chained t c.args.origin c.args.reference at _ _ (omega arith) (c.previous-next.ensures ∙ t.linked at below ∙ ap (λ b. last_below (bucket_at (all_entries t)) b at) (c.loop-next.invariant.1 at named)) found
