use Rattle.cases.proofs.Rows.{all_rows_lem}
use Rattle.cases.proofs.table.settled.Goals as goal

pub returns : goal.returns
returns c = all_rows_lem
