use Rattle.std.specs.Prelude.{MatchOption}
use Rattle.clearing.specs.Balances.{LastOf, NoneOf}
use Rattle.clearing.specs.Table.{entries, kept}
use Rattle.clearing.proofs.ranked.Ranked.last_of.Given as goal

abbrev pub invariant-loop-at : goal.invariant-loop-at
invariant-loop-at g l =
    MatchOption l.last
    (NoneOf (entries l.self.places.now) (kept l.self.places.now) l.member l.at)
    (LastOf (g.R.Ranking.ahead l.self.rule.now) (entries l.self.places.now) (kept l.self.places.now) l.member l.at)
