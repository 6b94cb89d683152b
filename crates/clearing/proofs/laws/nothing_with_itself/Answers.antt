use Rattle.clearing.proofs.Pairs.{with_itself}
use Rattle.clearing.proofs.laws.nothing_with_itself.Goals as goal

pub returns : goal.returns
returns c = with_itself
