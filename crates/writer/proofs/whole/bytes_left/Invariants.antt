use Rattle.std.proofs.Common.{◌≡◌, ◌+◌, leb, map, drop}
use Rattle.writer.specs.Whole.{batch_bytes, batch_of}
use Rattle.writer.proofs.whole.bytes_left.Given as goal

abbrev pub invariant-loop-batch : goal.invariant-loop-batch
invariant-loop-batch l = leb (batch_bytes (map batch_of (drop l.batch-index l.batches))) l.left ≡ leb (40 + batch_bytes (map batch_of l.batches)) l.room
