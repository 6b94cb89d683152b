use Rattle.std.proofs.Common.{sym, refl, subst, arith}
use Rattle.clearing.specs.Balances.{LastKept}
use Rattle.clearing.proofs.Heaped.{lane_less, last_top, nothing}
use Rattle.clearing.proofs.lanes.Lanes.take_last.Goals as goal

pub returns-in_err-at-clause-last : goal.returns-in_err-at-clause-last
returns-in_err-at-clause-last g c =
    let ranked = c.args.ranked.now in
    subst (LastKept (g.R.Ranking.ahead ranked.rule.now) ranked.places.now c.args.member) (sym c.from_residual.ensures)
    (nothing (g.met.R.Ranking.strict ranked.rule.now) c.requires.laned c.args.member c.last_lane-lane.result c.requires.member c.last_lane-lane.ensures
    (omega (arith, c.from.ensures, c.in_err-at.ensures)))

pub returns-clause-last : goal.returns-clause-last
returns-clause-last g c =
    last_top (g.met.R.Ranking.strict c.args.ranked.now.rule.now) c.requires.laned c.args.member c.last_lane-lane.result c.requires.member c.last_lane-lane.ensures refl c.in_ok-at.at
    (omega (arith, c.from.ensures, c.in_ok-at.ensures))

pub returns-clause-laned : goal.returns-clause-laned
returns-clause-laned g c =
    let lane = c.last_lane-lane.result in
    let lanes = c.args.self.now in
    lane_less (g.met.R.Ranking.strict c.args.ranked.now.rule.now) c.requires.laned lane c.in_ok-at.at (omega (arith, lanes.long.0, c.requires.member, c.last_lane-lane.ensures.lane.1)) lanes.long.0
    (omega (arith, c.from.ensures, c.in_ok-at.ensures))
