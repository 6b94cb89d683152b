use Rattle.std.proofs.Common.{sym, ap, w64, SFits, rules}
use Rattle.std.proofs.lemmas.Int.{to_z-of_z}
use Rattle.wire.specs.Bytes.{in_bytes}
use Rattle.pen.proofs.Lent.{wrote_as, wrote_more}
use Rattle.result.proofs.records.write_member.Goals as goal

pub returns : goal.returns
returns c =
    let f : SFits w64 c.args.line.position = search rules in
    let e = simp to_z-of_z at c.in_twos.ensures in
    record { name = cc; wrote = wrote_more c.write_head.ensures.wrote (wrote_more c.put.ensures.wrote (wrote_more (wrote_as (ap (in_bytes 8) (sym e)) c.put-2.ensures.wrote) c.put-3.ensures.wrote)) }
