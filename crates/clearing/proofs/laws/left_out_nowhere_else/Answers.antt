use Rattle.clearing.proofs.Grown.{nowhere_else}
use Rattle.clearing.proofs.laws.left_out_nowhere_else.Goals as goal

pub returns : goal.returns
returns c = nowhere_else
