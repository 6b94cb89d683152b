use Rattle.std.proofs.Common.{◌≡◌, ℕ, List, map, length, take}
use Rattle.writer.specs.Drafts.{FileDraft, bound}
use Rattle.writer.specs.Open.{FileStands}
use Rattle.writer.specs.Whole.{all_written, batch_of}
use Rattle.writer.proofs.whole.write_batches.Given as goal

abbrev pub invariant-loop-batch : goal.invariant-loop-batch
invariant-loop-batch l =
    record {
      name : l.file.out.ghost_name ≡ l.initial.file.out.ghost_name;
      stands : (d : FileDraft) (old : List ℕ) → FileStands d old l.initial.file → FileStands (all_written (bound (length old)) d (map batch_of (take l.batch-index l.batches))) old l.file;
    }
