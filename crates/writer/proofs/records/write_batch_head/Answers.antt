use Rattle.std.proofs.Common.{[], ◌∷◌, sym, ap}
use Rattle.pen.proofs.Lent.{wrote_as, wrote_more}
use Rattle.writer.proofs.records.write_batch_head.Goals as goal

pub returns : goal.returns
returns c = record { name = cc; wrote = wrote_more c.write_tag.ensures.wrote (wrote_more (wrote_as (ap (λ b. b ∷ []) (sym c.batch_kind.ensures)) c.put.ensures.wrote) c.put-2.ensures.wrote) }
