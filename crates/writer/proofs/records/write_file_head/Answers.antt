use Rattle.std.proofs.Common.{[], ◌∷◌, sym, ap}
use Rattle.pen.proofs.Lent.{wrote_as, wrote_more}
use Rattle.writer.proofs.records.write_file_head.Goals as goal

pub returns : goal.returns
returns c = record { name = cc; wrote = wrote_more c.write_tag.ensures.wrote (wrote_more (wrote_as (ap (λ b. b ∷ []) (sym c.from.ensures)) c.put.ensures.wrote) (wrote_more (wrote_as (ap (λ b. b ∷ []) (sym c.from-2.ensures)) c.put-2.ensures.wrote) (wrote_more (wrote_as (ap (λ b. b ∷ []) (sym c.from-3.ensures)) c.put-3.ensures.wrote) (wrote_more c.put-4.ensures.wrote (wrote_more c.put-5.ensures.wrote c.put-6.ensures.wrote))))) }
