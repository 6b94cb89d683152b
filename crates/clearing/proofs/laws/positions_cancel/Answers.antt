use Rattle.clearing.proofs.Pairs.{cancel}
use Rattle.clearing.proofs.laws.positions_cancel.Goals as goal

pub returns : goal.returns
returns c = cancel
