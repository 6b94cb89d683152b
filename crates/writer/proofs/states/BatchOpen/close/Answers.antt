use Rattle.std.proofs.Common.{sym, rules}
use Rattle.pen.proofs.Lent.{wrote_into}
use Rattle.writer.proofs.Growth.{batch_closed_lem}
use Rattle.writer.proofs.Longer.{few_fit}
use Rattle.writer.proofs.states.BatchOpen.close.Goals as goal

pub returns-clause-stands : goal.returns-clause-stands
returns-clause-stands c d old s =
    let b = c.args.self.written in
    let p = b.sofar in
    batch_closed_lem d old c.args.self.out.now _ p c.with_end.result.sofar c.args.self.refused _ (sym c.if-not-is_end_due.ensures) (few_fit p.held p.len b.held_even b.held_few b.within) c.with_end.ensures (wrote_into c.write_end.ensures.wrote (search rules)) s
