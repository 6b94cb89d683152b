use Rattle.std.proofs.Common.{◌≡◌, None, arith, rules}
use Rattle.writer.specs.Open.{number_check}
use Rattle.pen.proofs.Lent.{wrote_into}
use Rattle.writer.proofs.Growth.{batch_opened_lem}
use Rattle.writer.proofs.states.FileOpen.open_batch.Goals as goal

pub returns-clause-stands : goal.returns-clause-stands
returns-clause-stands c d old s =
    let f = c.args.self in
    let p = f.written.sofar in
    let e : number_check f c.args.number ≡ None = search rules in
    batch_opened_lem d old f.out.now _ p c.with_batch.result.sofar c.args.number _ e (omega arith) c.with_batch.ensures (wrote_into c.write_batch_head.ensures.wrote (search rules)) s
