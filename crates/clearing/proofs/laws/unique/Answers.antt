use Rattle.clearing.proofs.Grown.{one}
use Rattle.clearing.proofs.laws.unique.Goals as goal

pub returns : goal.returns
returns c = one
