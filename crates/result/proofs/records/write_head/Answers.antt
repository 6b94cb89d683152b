use Rattle.std.proofs.Common.{[], ◌∷◌, sym, ap}
use Rattle.wire.specs.Bytes.{in_bytes}
use Rattle.pen.proofs.Lent.{wrote_as, wrote_more}
use Rattle.result.proofs.records.write_head.Goals as goal

pub returns : goal.returns
returns c = record { name = cc; wrote = wrote_more (wrote_as (ap (λ b. b ∷ []) (sym c.tag.ensures)) c.put.ensures.wrote) (wrote_as (ap (in_bytes 2) (sym c.width.ensures)) c.put-2.ensures.wrote) }
