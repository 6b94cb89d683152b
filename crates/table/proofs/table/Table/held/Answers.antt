use Rattle.std.proofs.Common.{sym, refl, arith}
use Rattle.table.proofs.Held.{held_long}
use Rattle.table.proofs.table.Table.held.Goals as goal

pub returns : goal.returns
returns c =
    let t = c.args.self.now in
    record { value = sym (held_long t); field = refl; few = omega (arith, t.within, t.small) }
