use Rattle.std.proofs.Common.{◌≡◌, ℕ, ◌+◌, ◌<◌, ◌&&◌, eqb, length, sym, ◌∙◌, subst, arith}
use Rattle.std.specs.Prelude.{Option, MatchOption}
use Rattle.clearing.specs.Balances.{LastOf, NoneOf}
use Rattle.clearing.specs.Choices.{entry_at}
use Rattle.clearing.specs.Table.{entries, kept}
use Rattle.clearing.proofs.Last.{first_take, last_stay, last_take, skip}
use Rattle.clearing.proofs.Marks.{entries_long, entry_here, mark_here}
use Rattle.clearing.proofs.ranked.Ranked.last_of.Goals as goal
use Rattle.clearing.proofs.ranked.Ranked.last_of.Goals.{then-is_kept_of+in-Some, then-is_kept_of+in_default-2, then-is_kept_of+in_default, else-is_kept_of}

pub loop-at-preserved : goal.loop-at-preserved
loop-at-preserved g c =
    let ps = c.args.self.now.places.now in
    let es = entries ps in
    let m = c.args.member in
    let i = c.loop-at.at in
    let ahead = g.R.Ranking.ahead c.args.self.now.rule.now in
    let strict = g.met.R.Ranking.strict c.args.self.now.rule.now in
    let within : i < length es = omega (arith, entries_long ps, c.loop-at-test.true) in
    let mark = mark_here ps i c.place-item.result c.loop-at-test.true c.place-item.is in
    let here = entry_here ps i c.place-item.result c.loop-at-test.true c.place-item.is in
    let is : c.is_kept_of.result ≡ (kept ps i && eqb (entry_at es i).payer m) = c.is_kept_of.ensures ∙ (λ j. mark j && eqb (here j).payer m) in
    let P : ℕ → Option ℕ → Type 0 = λ n x. MatchOption x (NoneOf es (kept ps) m n) (LastOf ahead es (kept ps) m n) in
    elim c.if-is_kept_of.branch [
      | then-is_kept_of+in-Some w ↦ subst (P (i + 1)) (sym w.last-is)
          (last_stay es (kept ps) m i ahead strict w.in-Some.so_far (sym w.stands_before.ensures ∙ w.if-not-stands_before.true) (subst (P i) w.in-Some.is c.loop-at.invariant))
      | then-is_kept_of+in_default-2 w ↦ subst (P (i + 1)) (sym w.last-is)
          (last_take es (kept ps) m i ahead within (sym is ∙ w.if-is_kept_of.true) strict w.in-Some.so_far (sym w.stands_before.ensures ∙ w.if-not-stands_before.false) (subst (P i) w.in-Some.is c.loop-at.invariant))
      | then-is_kept_of+in_default w ↦ subst (P (i + 1)) (sym w.last-is) (first_take es (kept ps) m i ahead within (sym is ∙ w.if-is_kept_of.true) (subst (P i) w.in_default.is c.loop-at.invariant))
      | else-is_kept_of w ↦ subst (P (i + 1)) (sym w.last-is) (skip es (kept ps) m i ahead (sym is ∙ w.if-is_kept_of.false) c.loop-at.last c.loop-at.invariant)
    ]
