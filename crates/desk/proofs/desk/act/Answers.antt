use Rattle.std.proofs.Common.{length, sym, ap, subst}
use Rattle.desk.specs.Books.{Meant}
use Rattle.desk.specs.Calls.{meaning}
use Rattle.desk.specs.Runs.{Makes}
use Rattle.desk.proofs.desk.act.Goals as goal

pub returns-in-Clear : goal.returns-in-Clear
returns-in-Clear g c =
    let f = meaning g.I.Instrument.meaning g.R.Ranking.ahead g.C.CoverSource.covers (length c.args.out.now) in
    subst (λ (x : Meant). Makes x c.args.s.now c.settle.new.s c.args.out.now c.args.out.now c.settle.result) (sym (ap f c.in-Clear.is)) (c.settle.ensures c.args.out.now)
