use Rattle.clearing.specs.Lanes.{Topmost}
use Rattle.clearing.specs.Table.{entries}
use Rattle.clearing.proofs.lanes.Lanes.last_lane.Given as goal

abbrev pub invariant-loop-lane : goal.invariant-loop-lane
invariant-loop-lane g l = Topmost (g.R.Ranking.ahead l.ranked.rule.now) (entries l.ranked.places.now) l.self.tops l.member l.lane l.last
