use Rattle.std.proofs.Common.{arith}
use Rattle.wire.specs.Bytes.{Octets}
use Rattle.exactness.proofs.Exact.{exactly, octets}
use Rattle.exactness.proofs.Refuted.{refused_by}
use Rattle.exactness.proofs.judged.judge_file.Goals as goal

pub returns : goal.returns
returns c =
    let o : Octets c.args.bytes.now = octets c.args.bytes.now (λ i. omega (arith, c.type_inv.bytes i)) in
    record {
      judged = c.check.ensures;
      accepted = exactly c.args.bytes.now c.check.result o c.check.ensures;
      refused = refused_by c.args.bytes.now c.check.result o c.check.ensures;
    }
