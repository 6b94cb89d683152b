use Rattle.std.proofs.Common.{◌≡◌, ◌<◌, List, length, get_or, sym, refl, ap, ◌∙◌, arith, rules}
use Rattle.clearing.specs.Sums.{dues, means}
use Rattle.clearing.specs.Choices.{entry_at, live, is_live, payer_of, receiver_of}
use Rattle.clearing.specs.Table.{entries, cover_of}
use Rattle.clearing.specs.declared.balances.Balances.{Balances}
use Rattle.clearing.specs.declared.entry.Entry.{Entry}
use Rattle.clearing.proofs.Marks.{entry_is, entries_long, entries_set, kept_more, worths}
use Rattle.clearing.proofs.Sides.{dues_long, means_long}
use Rattle.clearing.proofs.Tallied.{tallied_all, tallied_low, tallied_more, tallied_none, tallied_skip}
use Rattle.clearing.proofs.netting.keep_live.Goals as goal
use Rattle.clearing.proofs.netting.keep_live.Goals.{then-live, else-live}

pub loop-place-init : goal.loop-place-init
loop-place-init c =
    let es = entries c.args.places.now in
    let bs = c.of-balances.result.by_member in
    let long : length bs ≡ 64 = search rules in (
      refl,
      λ k h. absurd (omega arith),
      tallied_none payer_of es (live es) (λ m. 0) (dues bs) (dues_long bs ∙ long) c.of-balances.ensures.due,
      tallied_none receiver_of es (live es) (cover_of c.args.covers.now) (means bs) (means_long bs ∙ long) c.of-balances.ensures.funds,
    )

pub add-requires : goal.add-requires
add-requires c =
    let each = worths c.args.places.now in
    let x = get_or c.loop-place.places c.loop-place.place-index c.place-item.result in
    record {
      paid = omega (arith, tallied_low c.loop-place.invariant.2 each x.entry.payer x.pays, x.limited);
      received = omega (arith, tallied_low c.loop-place.invariant.3 each x.entry.receiver x.receives, x.limited, c.args.covers.now.low x.entry.receiver);
    }

pub loop-place-preserved : goal.loop-place-preserved
loop-place-preserved c =
    let es = entries c.args.places.now in
    let now = c.loop-place.places in
    let i = c.loop-place.place-index in
    let inv = c.loop-place.invariant in
    let lt : i < length now = omega arith in
    let x = get_or now i c.place-item.result in
    let here : x.entry ≡ entry_at es i = sym (entry_is now i c.place-item.result lt) ∙ ap (λ (l : List Entry). entry_at l i) inv.0 in
    let is : c.is_live-live.result ≡ live es i = c.is_live-live.ensures ∙ ap is_live here in
    elim c.if-live.branch [
      | then-live w ↦ (
        ap entries w.places-is ∙ entries_set now i c.place-item.result _ lt refl ∙ inv.0,
        kept_more now c.if-live.places i _ (live es) lt w.places-is is inv.1,
        tallied_more inv.2 x.entry here (sym is ∙ w.if-live.true) (ap (λ (b : Balances). dues b.by_member) w.balances-is ∙ w.add.ensures.due),
        tallied_more inv.3 x.entry here (sym is ∙ w.if-live.true) (ap (λ (b : Balances). means b.by_member) w.balances-is ∙ w.add.ensures.funds),
      )
      | else-live w ↦ (
        ap entries w.places-is ∙ entries_set now i c.place-item.result _ lt refl ∙ inv.0,
        kept_more now c.if-live.places i _ (live es) lt w.places-is is inv.1,
        tallied_skip inv.2 (sym is ∙ w.if-live.false) (ap (λ (b : Balances). dues b.by_member) w.balances-is),
        tallied_skip inv.3 (sym is ∙ w.if-live.false) (ap (λ (b : Balances). means b.by_member) w.balances-is),
      )
    ]

pub returns-clause-balanced : goal.returns-clause-balanced
returns-clause-balanced c =
    let inv = c.loop-place.invariant in
    let end : c.loop-place.place-index ≡ length (entries c.args.places.now) = omega (arith, entries_long c.args.places.now) in
    record { payments = λ m h. omega (arith, tallied_all inv.2 end m h); means = tallied_all inv.3 end }
