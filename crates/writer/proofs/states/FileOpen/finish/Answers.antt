use Rattle.std.proofs.Common.{sym, arith, rules}
use Rattle.pen.proofs.Lent.{wrote_into}
use Rattle.writer.proofs.Growth.{file_finished, left_bare}
use Rattle.writer.proofs.Longer.{few_fit}
use Rattle.writer.proofs.states.FileOpen.finish.Goals as goal

pub returns-then-not-is_end_due-clause-done : goal.returns-then-not-is_end_due-clause-done
returns-then-not-is_end_due-clause-done c d old s =
    left_bare d old c.args.self.out.now c.args.self.written.sofar (sym c.if-not-is_end_due.ensures) s

pub returns-clause-done : goal.returns-clause-done
returns-clause-done c d old s =
    let b = c.args.self.written in
    let p = b.sofar in
    file_finished d old c.args.self.out.now _ p _ (sym c.if-not-is_end_due.ensures) (omega (arith, b.ends, b.within)) (few_fit p.totals p.len b.even b.few b.within) (wrote_into c.write_end.ensures.wrote (search rules)) s
