use Rattle.std.proofs.Common.{rules}
use Rattle.pen.proofs.Lent.{wrote_front}
use Rattle.writer.proofs.states.FileOpen.open.Goals as goal

pub returns-clause-stands : goal.returns-clause-stands
returns-clause-stands c = let e = wrote_front c.write_file_head.ensures.wrote in search rules
