use Rattle.clearing.proofs.Grown.{grows}
use Rattle.clearing.proofs.laws.grows_with_covers.Goals as goal

pub returns : goal.returns
returns c = grows
