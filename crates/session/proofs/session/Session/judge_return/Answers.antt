use Rattle.std.proofs.Common.{◌≡◌, Some, sym, ◌∙◌, arith}
use Rattle.table.specs.Entries.{entries_of}
use Rattle.session.proofs.Found.{found_there}
use Rattle.session.proofs.session.Session.judge_return.Goals as goal

pub unreachable-requires : goal.unreachable-requires
unreachable-requires c = let f : c.find.result ≡ Some c.in_ok-at.at = grind arith in found_there (entries_of c.args.self.now.table) c.args.row.originator c.args.row.reference c.in_ok-at.at (sym c.find.ensures ∙ f) (sym c.in_default.ensures)
