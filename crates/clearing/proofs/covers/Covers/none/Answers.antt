use Rattle.std.proofs.Common.{arith}
use Rattle.clearing.proofs.Amounts.{all_most, all_zero}
use Rattle.clearing.proofs.covers.Covers.none.Goals as goal

pub invariant_of-result : goal.invariant_of-result
invariant_of-result c = record { low = λ m. omega (arith, all_most) }

pub returns : goal.returns
returns c = all_zero 64
