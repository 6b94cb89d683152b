use Rattle.std.proofs.Common.{ℕ, ◌+◌, sym, ◌∙◌, subst, arith}
use Rattle.clearing.specs.Lanes.{Topmost}
use Rattle.clearing.specs.Table.{entries}
use Rattle.clearing.proofs.Heaped.{top_le, topmost_stay, topmost_take}
use Rattle.clearing.proofs.Marks.{entries_long}
use Rattle.clearing.proofs.lanes.Lanes.last_lane.Goals as goal
use Rattle.clearing.proofs.lanes.Lanes.last_lane.Goals.{then-comes_after, else-comes_after}

pub comes_after-requires : goal.comes_after-requires
comes_after-requires g c =
    let le = top_le (g.met.R.Ranking.strict c.args.ranked.now.rule.now) c.requires.laned in
    let long = entries_long c.args.ranked.now.places.now in
    let few = c.args.self.now.few in (
      omega (arith, long, le c.loop-lane.last (omega (arith, c.requires.member, c.loop-lane.invariant.lane.1))),
      omega (arith, long, le c.loop-lane.lane (omega (arith, c.requires.member, c.loop-lane-test.true))),
    )

pub loop-lane-preserved : goal.loop-lane-preserved
loop-lane-preserved g c =
    let ahead = g.R.Ranking.ahead c.args.ranked.now.rule.now in
    let strict = g.met.R.Ranking.strict c.args.ranked.now.rule.now in
    let es = entries c.args.ranked.now.places.now in
    let tops = c.args.self.now.tops in
    let m = c.args.member in
    let k = c.loop-lane.lane in
    let few = c.args.self.now.few in
    let P : ℕ → Type 0 = λ x. Topmost ahead es tops m (k + 1) x in
    elim c.if-comes_after.branch [
      | then-comes_after w ↦ subst P (sym w.last-is)
          (topmost_take _ _ strict tops m c.loop-lane.last k (omega (arith, c.loop-lane.auto.lane)) (omega (arith, c.loop-lane-test.true)) (sym c.comes_after.ensures ∙ w.if-comes_after.true) c.loop-lane.invariant)
      | else-comes_after w ↦ subst P (sym w.last-is) (topmost_stay _ _ strict tops m c.loop-lane.last k (sym c.comes_after.ensures ∙ w.if-comes_after.false) c.loop-lane.invariant)
    ]
