use Rattle.std.proofs.Common.{◌≡◌, ℕ, List, length, take}
use Rattle.writer.specs.Drafts.{BatchDraft, bound}
use Rattle.writer.specs.Open.{BatchStands}
use Rattle.writer.specs.Whole.{all_put}
use Rattle.writer.proofs.whole.write_batch.Given as goal

abbrev pub invariant-loop-row : goal.invariant-loop-row
invariant-loop-row l =
    record {
      name : l.open.out.ghost_name ≡ l.initial.open.out.ghost_name;
      stands : (d : BatchDraft) (old : List ℕ) → BatchStands d old l.initial.open → BatchStands (all_put (bound (length old)) d (take l.row-index l.batch.rows.now)) old l.open;
    }
