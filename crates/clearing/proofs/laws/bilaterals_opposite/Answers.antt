use Rattle.clearing.proofs.Pairs.{opposite}
use Rattle.clearing.proofs.laws.bilaterals_opposite.Goals as goal

pub returns : goal.returns
returns c = opposite
