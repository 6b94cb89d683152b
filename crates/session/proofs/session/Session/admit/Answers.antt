use Rattle.session.proofs.Orders.{admitted_from}
use Rattle.session.proofs.session.Session.admit.Goals as goal

pub returns : goal.returns
returns g c = admitted_from _ _ _ _ c.judge_file.ensures c.map_err.ensures.cases
