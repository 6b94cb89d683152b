use Rattle.pen.proofs.Lent.{wrote_more}
use Rattle.result.proofs.records.write_withdrawn.Goals as goal

pub returns : goal.returns
returns c = record { name = cc; wrote = wrote_more c.write_head.ensures.wrote (wrote_more c.put.ensures.wrote (wrote_more c.put-2.ensures.wrote (wrote_more c.put-3.ensures.wrote (wrote_more c.put-4.ensures.wrote (wrote_more c.put-5.ensures.wrote c.put-6.ensures.wrote))))) }
