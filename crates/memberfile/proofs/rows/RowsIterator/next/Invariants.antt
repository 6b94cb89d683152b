use Rattle.std.proofs.Common.{◌≡◌, length}
use Rattle.memberfile.specs.Walk.{rows_in}
use Rattle.memberfile.proofs.rows.RowsIterator.next.Given as goal

abbrev pub invariant-loop-met : goal.invariant-loop-met
invariant-loop-met l = rows_in l.initial.self.rest.now ≡ rows_in l.self.rest.now

abbrev pub decreases-loop-met : goal.decreases-loop-met
decreases-loop-met l = length l.self.rest.now
