use Rattle.std.proofs.Common.{refl, rules}
use Rattle.pen.proofs.Lent.{wrote_number}
use Rattle.pen.proofs.pen.Pen.put.Goals as goal

pub returns : goal.returns
returns g c =
    let e = g.met.N.BigEndian.is_in_bytes c.args.x in
    record { name = refl; wrote = search (rules, wrote_number) }
