use Rattle.std.proofs.Common.{arith}
use Rattle.std.proofs.lemmas.Int.{to_z-of_z}
use Rattle.result.proofs.Numbers.{twos_is}
use Rattle.result.proofs.records.in_twos.Goals as goal

pub returns : goal.returns
returns c =
    let f = c.ranges.position in
    grind (arith, to_z-of_z, twos_is)
