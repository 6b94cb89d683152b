use Rattle.std.proofs.Common.{◌≡◌, ℕ, List, length, sym, refl, ◌∙◌, subst, arith, rules}
use Rattle.std.specs.Prelude.{Option, Some, None, IfSome, IsSome, MatchOption}
use Rattle.clearing.specs.Balances.{LastKept, Without}
use Rattle.clearing.specs.Sums.{dues, means}
use Rattle.clearing.specs.Choices.{Choice, entry_at, left_out, payer_of, receiver_of}
use Rattle.clearing.specs.Lanes.{AllLaned, Laned}
use Rattle.clearing.specs.Table.{entries, kept, cover_of}
use Rattle.clearing.specs.declared.entry.Entry.{Entry}
use Rattle.clearing.specs.declared.lanes.Lanes.{Lanes}
use Rattle.clearing.proofs.Marks.{payers, receivers, entries_long}
use Rattle.clearing.proofs.Sides.{dues_long, means_long}
use Rattle.clearing.proofs.State.{State, begun, has_some, worth_le}
use Rattle.clearing.proofs.Sums.{size_le}
use Rattle.clearing.proofs.Turn.{in_table, fewer, taken_out, turned}
use Rattle.clearing.proofs.netting.clear_all.Goals as goal
use Rattle.clearing.proofs.netting.clear_all.Goals.{in-Some, in-None}

pub loop-member-init : goal.loop-member-init
loop-member-init g c =
    let qs = c.keep_live-balances.new.places in
    let ahead = g.R.Ranking.ahead c.args.rule.now in
    let bs = c.keep_live-balances.result.by_member in
    let long : length bs ≡ 64 = search rules in
    let P : Option Lanes → Type 0 = λ x. IfSome x (λ ls. AllLaned ahead qs (kept qs) ls.tops ls.below) in (
      refl,
      subst (λ (es : List Entry). State ahead (cover_of c.args.covers.now) es (kept qs) (dues bs) (means bs) 0) (sym c.keep_live-balances.ensures.entries)
          (begun _ _ (entries c.args.places.now) (kept qs) (dues bs) (means bs) c.keep_live-balances.ensures.kept c.keep_live-balances.ensures.balanced (dues_long bs ∙ long) (means_long bs ∙ long)),
      elim c.match-find_short.branch [
        | in-Some w ↦ subst P (sym w.lanes-is) w.filled-lanes.ensures
        | in-None w ↦ subst P (sym w.lanes-is) tt
      ],
    )

is_some : (r : Option ℕ) (N : Type 0) (P : ℕ → Type 0) → (N → ⊥) → MatchOption r N P → IsSome r
is_some None N P f h = absurd (f h)
is_some (Some x) N P f h = search rules

pub unwrap-last-requires : goal.unwrap-last-requires
unwrap-last-requires g c =
    let e = c.in-Some-next_short.ensures in
    is_some c.take_last.result _ _ (has_some c.loop-member.invariant.1 c.in-Some-next_short.member e.0 e.1) c.take_last.ensures.last

pub withdraw-receiver-requires : goal.withdraw-receiver-requires
withdraw-receiver-requires g c =
    let s = c.loop-member.invariant.1 in
    let ps = c.loop-member.places in
    let m = c.in-Some-next_short.member in
    let e = c.in-Some-next_short.ensures in
    let r = c.unwrap-last.result in
    let last = subst (LastKept (g.R.Ranking.ahead c.args.rule.now) ps m) c.unwrap-last.ensures c.take_last.ensures.last in
    let strict = g.met.R.Ranking.strict c.args.rule.now in
    record {
      within = in_table strict ps s m e.0 e.1 r last;
      paid = omega (arith, worth_le strict s m e.0 e.1 r last payer_of, s.balanced.payments (entry_at (entries ps) r).payer (payers ps r));
      received = omega (arith, worth_le strict s m e.0 e.1 r last receiver_of, s.balanced.means (entry_at (entries ps) r).receiver (receivers ps r));
    }

pub overflow_add-count : goal.overflow_add-count
overflow_add-count g c =
    let es = entries c.loop-member.places in
    search (rules, size_le es (left_out es (kept c.loop-member.places)), entries_long c.loop-member.places, c.loop-member.invariant.1.counted)

pub loop-member-smaller : goal.loop-member-smaller
loop-member-smaller g c =
    let ps = c.loop-member.places in
    let m = c.in-Some-next_short.member in
    let e = c.in-Some-next_short.ensures in
    let last = subst (LastKept (g.R.Ranking.ahead c.args.rule.now) ps m) c.unwrap-last.ensures c.take_last.ensures.last in
    fewer (g.met.R.Ranking.strict c.args.rule.now) ps c.loop-member.invariant.1 m e.0 e.1 c.unwrap-last.result last
    c.withdraw-receiver.new.places c.withdraw-receiver.ensures.entries c.withdraw-receiver.ensures.marks

pub loop-member-preserved : goal.loop-member-preserved
loop-member-preserved g c =
    let ahead = g.R.Ranking.ahead c.args.rule.now in
    let strict = g.met.R.Ranking.strict c.args.rule.now in
    let s = c.loop-member.invariant.1 in
    let ps = c.loop-member.places in
    let qs = c.withdraw-receiver.new.places in
    let m = c.in-Some-next_short.member in
    let e = c.in-Some-next_short.ensures in
    let r = c.unwrap-last.result in
    let w = c.withdraw-receiver.ensures in
    let last = subst (LastKept ahead ps m) c.unwrap-last.ensures c.take_last.ensures.last in
    let Lies : List Entry → Choice → Type 0 = λ es D. IfSome c.take_last.new.lanes (λ ls. Laned ahead es D (length es) ls.tops ls.below) in
    let laned : (D : Choice) → Without (kept ps) D r → Lies (entries ps) D =
    subst (λ (x : Option ℕ). IfSome x (λ q. (D : Choice) → Without (kept ps) D q → Lies (entries ps) D)) c.unwrap-last.ensures c.take_last.ensures.laned in (
      w.entries ∙ c.loop-member.invariant.0,
      turned strict ps s m e.0 e.1 r last qs w.entries w.marks w.due w.funds,
      subst (λ (es : List Entry). Lies es (kept qs)) (sym w.entries) (laned (kept qs) (taken_out strict ps s m e.0 e.1 r last qs w.entries w.marks)),
    )
