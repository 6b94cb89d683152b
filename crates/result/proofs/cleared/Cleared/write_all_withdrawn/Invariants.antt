use Rattle.pen.specs.Puts.{Puts}
use Rattle.result.specs.Gathered.{each_of}
use Rattle.result.specs.Layout.{enc_withdrawn}
use Rattle.result.proofs.cleared.Cleared.write_all_withdrawn.Given as goal

abbrev pub invariant-loop-entry : goal.invariant-loop-entry
invariant-loop-entry l =
    record {
      can : (goal.iterator-loop-entry).can_next l.entry-iterator;
      finite : (goal.iterator-loop-entry).is_finite l.entry-iterator;
      puts : Puts l.initial.pen l.pen (each_of enc_withdrawn l.yielded);
    }
