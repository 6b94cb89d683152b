use Rattle.clearing.specs.Lanes.{Laned}
use Rattle.clearing.specs.Table.{entries, kept}
use Rattle.clearing.proofs.lanes.Lanes.filled.Given as goal

abbrev pub invariant-loop-at : goal.invariant-loop-at
invariant-loop-at g l =
    Laned (g.R.Ranking.ahead l.ranked.rule.now) (entries l.ranked.places.now) (kept l.ranked.places.now) l.at l.lanes.tops l.lanes.below
