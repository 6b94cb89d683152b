use Rattle.std.proofs.Common.{rules}
use Rattle.clearing.proofs.Amounts.{all_zero}
use Rattle.clearing.proofs.lanes.Lanes.empty.Goals as goal

pub invariant_of-result : goal.invariant_of-result
invariant_of-result c = record { long = (search rules, search rules); few = search rules; narrow = λ l h. all_zero 256 l }
