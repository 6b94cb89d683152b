use Rattle.std.proofs.Common.{◌≡◌, ◌+◌, sym, ◌∙◌, subst, arith}
use Rattle.clearing.specs.Lanes.{Laned}
use Rattle.clearing.specs.Table.{entries, kept}
use Rattle.clearing.specs.declared.lanes.Lanes.{Lanes}
use Rattle.clearing.proofs.Heaped.{lane_none, lane_skip, more_laned}
use Rattle.clearing.proofs.Marks.{mark_here, payers}
use Rattle.clearing.proofs.lanes.Lanes.filled.Goals as goal
use Rattle.clearing.proofs.lanes.Lanes.filled.Goals.{then-place+in_ok-lane, else-place}

pub loop-at-init : goal.loop-at-init
loop-at-init g c = lane_none _ _ _ c.empty-lanes.result.tops c.empty-lanes.result.below c.empty-lanes.ensures

pub loop-at-preserved : goal.loop-at-preserved
loop-at-preserved g c =
    let ps = c.args.ranked.now.places.now in
    let at = c.loop-at.at in
    let inv = c.loop-at.invariant in
    let lanes = c.loop-at.lanes in
    let few = c.args.ranked.now.few in
    let strict = g.met.R.Ranking.strict c.args.ranked.now.rule.now in
    let mark : kept ps at ≡ c.place-item.result.kept = sym (mark_here ps at c.place-item.result c.loop-at-test.true c.place-item.is) in
    let P : Lanes → Type 0 = λ x. Laned (g.R.Ranking.ahead c.args.ranked.now.rule.now) (entries ps) (kept ps) (at + 1) x.tops x.below in
    elim c.if-place.branch [
      | then-place+in_ok-lane w ↦ subst P (sym w.lanes-is)
          (more_laned strict inv w.in_ok-lane.lane lanes.long.0 (omega (arith, lanes.long.1, c.loop-at-test.true)) (mark ∙ w.if-place.true) (payers ps at)
          w.in_ok-lane.ensures.0 w.in_ok-lane.ensures.1 w.put.new.self.tops w.put.new.self.below w.put.ensures.tops w.put.ensures.below)
      | else-place w ↦ subst P (sym w.lanes-is) (lane_skip strict inv (mark ∙ w.if-place.false))
    ]
