-- The file of one transfer and its bytes.
use Rattle.std.proofs.Common.{refl}
use Rattle.memberfile.specs.Judge.{judge}
use Rattle.exactness.specs.Example.{ExampleStands}

pub example_stands : ExampleStands
unfolding judge
example_stands = (refl, refl)
