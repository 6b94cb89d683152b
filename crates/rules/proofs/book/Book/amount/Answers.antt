use Rattle.std.proofs.Common.{arith}
use Rattle.rules.proofs.Reporting.{amount_found, amount_missed}
use Rattle.rules.proofs.book.Book.amount.Goals as goal

pub returns-in-Some : goal.returns-in-Some
returns-in-Some c =
    let b = c.args.self.now in
    let f = c.in-Some.ensures in
    amount_found b.reports _ b.held c.args.code f.within (omega (arith, b.places, b.few)) f.before f.found

pub returns-in-None : goal.returns-in-None
returns-in-None c =
    let b = c.args.self.now in
    amount_missed b.reports b.held c.args.code c.in-None.ensures (omega (arith, b.places, b.few))
