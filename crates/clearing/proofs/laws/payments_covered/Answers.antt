use Rattle.clearing.proofs.Grown.{covered}
use Rattle.clearing.proofs.laws.payments_covered.Goals as goal

pub returns : goal.returns
returns c = covered
