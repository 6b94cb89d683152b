use Rattle.pen.proofs.Lent.{wrote_more}
use Rattle.writer.proofs.records.write_end.Goals as goal

pub returns : goal.returns
returns c = record { name = cc; wrote = wrote_more c.write_tag.ensures.wrote (wrote_more c.put.ensures.wrote (wrote_more c.put-2.ensures.wrote (wrote_more c.put-3.ensures.wrote (wrote_more c.put-4.ensures.wrote c.put-5.ensures.wrote)))) }
