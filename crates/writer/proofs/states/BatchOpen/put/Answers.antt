use Rattle.std.proofs.Common.{◌≡◌, None, rules}
use Rattle.writer.specs.Open.{row_check}
use Rattle.pen.proofs.Lent.{wrote_into}
use Rattle.writer.proofs.Growth.{row_put}
use Rattle.writer.proofs.states.BatchOpen.put.Goals as goal

pub returns-clause-stands : goal.returns-clause-stands
returns-clause-stands c d old s =
    let b = c.args.self.now in
    let e : row_check b c.args.row ≡ None = search rules in
    row_put d old b.out.now _ b.written.sofar c.with_row-self.result.sofar b.refused c.args.row _ e c.write_row.ensures.fits c.with_row-self.ensures (wrote_into c.write_row.ensures.puts.wrote (search rules)) s
