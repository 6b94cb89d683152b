use Rattle.std.proofs.Common.{[], ◌∷◌, sym, ap}
use Rattle.pen.proofs.Lent.{wrote_as, wrote_more}
use Rattle.result.proofs.records.write_header.Goals as goal

pub returns : goal.returns
returns c = record { name = cc; wrote = wrote_more c.write_head.ensures.wrote (wrote_more (wrote_as (ap (λ b. b ∷ []) (sym c.from.ensures)) c.put.ensures.wrote) (wrote_more (wrote_as (ap (λ b. b ∷ []) (sym c.from-2.ensures)) c.put-2.ensures.wrote) c.put-3.ensures.wrote)) }
