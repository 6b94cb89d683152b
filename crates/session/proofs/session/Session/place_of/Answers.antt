use Rattle.std.proofs.Common.{sym, arith}
use Rattle.session.proofs.Rolls.{place_low}
use Rattle.session.proofs.session.Session.place_of.Goals as goal

pub overflow_cast-result : goal.overflow_cast-result
overflow_cast-result c = let l = place_low c.args.self.now.docket c.args.code c.in_ok-place.place (sym c.in_ok-place.ensures) in omega arith

pub returns-clause-low : goal.returns-clause-low
returns-clause-low c = place_low c.args.self.now.docket c.args.code c.in_ok-place.place (sym c.in_ok-place.ensures)
