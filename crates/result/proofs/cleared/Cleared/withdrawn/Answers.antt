use Rattle.std.proofs.Common.{◌∙◌}
use Rattle.result.proofs.Agreeing.{sheet_counts}
use Rattle.result.proofs.cleared.Cleared.withdrawn.Goals as goal

pub returns-clause-value : goal.returns-clause-value
returns-clause-value c =
    let a = c.args.self.now in
    c.withdrawn.ensures.value ∙ sheet_counts a.session.now a.sheet.now a.counted a.stands
