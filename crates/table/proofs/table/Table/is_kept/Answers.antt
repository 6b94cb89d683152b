use Rattle.std.proofs.Common.{◌∙◌, le-ltb}
use Rattle.table.proofs.Held.{kept_none, kept_read}
use Rattle.table.proofs.table.Table.is_kept.Goals as goal

pub returns-then-at-self : goal.returns-then-at-self
returns-then-at-self c = kept_read c.args.self.now c.args.at c.index.result.now c.if-at-self.true c.index.ensures

pub returns-else-at-self : goal.returns-else-at-self
returns-else-at-self c = le-ltb c.args.at c.args.self.now.held c.if-at-self.false ∙ kept_none c.args.self.now c.args.at c.if-at-self.false
