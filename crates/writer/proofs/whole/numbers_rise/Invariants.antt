use Rattle.std.proofs.Common.{◌≡◌, map, drop}
use Rattle.writer.specs.Whole.{batch_of, rises_from}
use Rattle.writer.proofs.whole.numbers_rise.Given as goal

abbrev pub invariant-loop-batch : goal.invariant-loop-batch
invariant-loop-batch l = rises_from l.last (map batch_of (drop l.batch-index l.batches)) ≡ rises_from 0 (map batch_of l.batches)
