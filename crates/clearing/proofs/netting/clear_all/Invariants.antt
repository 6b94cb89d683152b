use Rattle.std.proofs.Common.{◌≡◌}
use Rattle.std.specs.Prelude.{IfSome}
use Rattle.clearing.specs.Sums.{dues, means}
use Rattle.clearing.specs.Choices.{size}
use Rattle.clearing.specs.Lanes.{AllLaned}
use Rattle.clearing.specs.Table.{entries, kept, cover_of}
use Rattle.clearing.proofs.State.{State}
use Rattle.clearing.proofs.netting.clear_all.Given as goal

abbrev pub invariant-loop-member : goal.invariant-loop-member
invariant-loop-member g l =
    (entries l.places ≡ entries l.initial.places)
    × State (g.R.Ranking.ahead l.rule) (cover_of l.covers) (entries l.places) (kept l.places) (dues l.balances.by_member) (means l.balances.by_member) l.count
    × IfSome l.lanes (λ ls. AllLaned (g.R.Ranking.ahead l.rule) l.places (kept l.places) ls.tops ls.below)

abbrev pub decreases-loop-member : goal.decreases-loop-member
decreases-loop-member g l = size (entries l.places) (kept l.places)
