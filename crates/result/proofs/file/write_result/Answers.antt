use Rattle.result.proofs.Answered.{totals_fit}
use Rattle.result.proofs.file.write_result.Goals as goal

pub returns-then-not-is_cleared-clause-totals : goal.returns-then-not-is_cleared-clause-totals
returns-then-not-is_cleared-clause-totals c = totals_fit c.args.session.now
