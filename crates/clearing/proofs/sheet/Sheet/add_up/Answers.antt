use Rattle.std.proofs.Common.{◌≡◌, ℕ, Bool, true, false, cond, List, length, sym, ap, ◌∙◌, subst, arith, rules}
use Rattle.clearing.specs.Sums.{dues, means}
use Rattle.clearing.specs.Choices.{entry_at, is_live, live, payer_of, receiver_of}
use Rattle.clearing.specs.Table.{entries, kept}
use Rattle.clearing.specs.declared.balances.Balances.{Balances}
use Rattle.clearing.specs.declared.place.Place.{Place}
use Rattle.clearing.proofs.Added.{Added, added_all, added_kept, added_other, count_none, withdrawn_low}
use Rattle.clearing.proofs.Marks.{entries_long, entry_here, mark_here, worths}
use Rattle.clearing.proofs.Sides.{dues_long, means_long}
use Rattle.clearing.proofs.Tallied.{tallied_low, tallied_none}
use Rattle.clearing.proofs.sheet.Sheet.add_up.Goals as goal
use Rattle.clearing.proofs.sheet.Sheet.add_up.Goals.{then-place, else-place+then-is_live, else-place+else-is_live}

pub loop-place-init : goal.loop-place-init
loop-place-init c =
    let ps = c.front-place-items.result.now in
    let bs = c.of-balances.result.by_member in
    let long : length bs ≡ 64 = search rules in
    record {
      paid = tallied_none payer_of (entries ps) (kept ps) (λ m. 0) (dues bs) (dues_long bs ∙ long) c.of-balances.ensures.due;
      received = tallied_none receiver_of (entries ps) (kept ps) (λ m. 0) (means bs) (means_long bs ∙ long) (λ m. c.of-balances.ensures.funds m ∙ c.none.ensures m);
      count = count_none (entries ps) (kept ps);
    }

pub add-requires : goal.add-requires
add-requires c =
    let each = worths c.front-place-items.result.now in
    let few = c.front-place-items.ensures.few in
    let x = c.place-item.result in
    record {
      paid = omega (arith, tallied_low c.loop-place.invariant.paid each x.entry.payer x.pays, x.limited);
      received = omega (arith, tallied_low c.loop-place.invariant.received each x.entry.receiver x.receives, x.limited);
    }

pub loop-place-preserved : goal.loop-place-preserved
loop-place-preserved c =
    let ps = c.front-place-items.result.now in
    let i = c.loop-place.place-index in
    let x = c.place-item.result in
    let inv = c.loop-place.invariant in
    let here : x.entry ≡ entry_at (entries ps) i = entry_here ps i x c.loop-place-test.true c.place-item.is in
    let mark : x.kept ≡ kept ps i = mark_here ps i x c.loop-place-test.true c.place-item.is in
    let counts : (b : Bool) → is_live x.entry ≡ b → ◌≡◌ {A = ℕ} (cond (live (entries ps) i) 1 0) (cond b 1 0) = λ b e. ap {B = ℕ} (λ (v : Bool). cond v 1 0) (sym (ap is_live here) ∙ e) in
    elim c.if-place.branch [
      | then-place w ↦ added_kept inv x.entry here (sym mark ∙ w.if-place.true)
          (ap (λ (b : Balances). dues b.by_member) w.balances-is ∙ w.add.ensures.due) (ap (λ (b : Balances). means b.by_member) w.balances-is ∙ w.add.ensures.funds) w.withdrawn-is
      | else-place+then-is_live w ↦ added_other inv (sym mark ∙ w.if-place.false) (ap (λ (b : Balances). b.by_member) w.balances-is)
          (omega (arith, w.withdrawn-is, counts true (sym w.is_live.ensures ∙ w.if-is_live.true)))
      | else-place+else-is_live w ↦ added_other inv (sym mark ∙ w.if-place.false) (ap (λ (b : Balances). b.by_member) w.balances-is)
          (omega (arith, w.withdrawn-is, counts false (sym w.is_live.ensures ∙ w.if-is_live.false)))
    ]

pub overflow_add-withdrawn : goal.overflow_add-withdrawn
overflow_add-withdrawn c = search (rules, withdrawn_low c.loop-place.invariant, c.front-place-items.ensures.few)

pub invariant_of-result : goal.invariant_of-result
invariant_of-result c =
    let each = worths c.front-place-items.result.now in
    let a = c.loop-place.invariant in
    let few = c.front-place-items.ensures.few in
    record {
      payments = λ m h. omega (arith, tallied_low a.paid each m h);
      receipts = λ m h. omega (arith, tallied_low a.received each m h);
      few = omega (arith, withdrawn_low a);
    }

pub returns : goal.returns
returns c =
    let ps = c.front-place-items.result.now in
    let is = c.front-place-items.ensures.places in
    let a = subst (λ (qs : List Place). Added (entries qs) (kept qs) c.loop-place.place-index c.loop-place.balances.by_member c.loop-place.withdrawn) is c.loop-place.invariant in
    added_all _ a (omega (arith, entries_long ps, ap (λ (qs : List Place). length (entries qs)) is))
