use Rattle.clearing.proofs.Amounts.{all_zero}
use Rattle.table.proofs.index.Index.empty.Goals as goal

pub returns : goal.returns
returns c = all_zero 4096
