use Rattle.std.proofs.Common.{◌≡◌}
use Rattle.pen.specs.Puts.{Puts}
use Rattle.result.specs.Gathered.{each_of}
use Rattle.result.specs.Layout.{enc_member, positive_sum}
use Rattle.result.specs.Value.{lines_up_to}
use Rattle.result.proofs.cleared.Cleared.write_members.Given as goal

abbrev pub invariant-loop-place : goal.invariant-loop-place
invariant-loop-place l =
    record {
      puts : Puts l.initial.pen l.pen (each_of enc_member (lines_up_to l.self.session.now l.place));
      sum : l.sum ≡ positive_sum (lines_up_to l.self.session.now l.place);
    }
