use Rattle.std.proofs.Common.{◌≡◌, ◌-◌, ◌≤◌, length}
use Rattle.memberfile.proofs.Turns.{Sofar}
use Rattle.memberfile.proofs.check.check.Given as goal

abbrev pub invariant-loop-stage : goal.invariant-loop-stage
invariant-loop-stage l = (l.reader.bytes.now ≡ l.bytes) × (length l.bytes ≤ 65535) × Sofar l.bytes l.stage l.reader.at

abbrev pub decreases-loop-stage : goal.decreases-loop-stage
decreases-loop-stage l = length l.bytes - l.reader.at
