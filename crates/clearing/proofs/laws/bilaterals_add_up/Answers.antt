use Rattle.clearing.proofs.Pairs.{add_up}
use Rattle.clearing.proofs.laws.bilaterals_add_up.Goals as goal

pub returns : goal.returns
returns c = add_up
