use Rattle.std.proofs.Common.{refl}
use Rattle.desk.proofs.Runs.{makes}
use Rattle.desk.proofs.Steps.{settled_does}
use Rattle.desk.proofs.desk.settle.Goals as goal

pub returns : goal.returns
returns g c = λ out. makes (settled_does (g.R.Ranking.ahead c.args.rule.now) (g.C.CoverSource.covers c.args.source.now) c.args.s.now c.clear.new.self c.clear.result c.clear.ensures.ledger c.clear.ensures.settled c.clear.ensures.count) refl tt
