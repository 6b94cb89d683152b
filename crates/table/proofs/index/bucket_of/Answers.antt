use Rattle.std.proofs.Common.{refl, arith}
use Rattle.table.specs.Buckets.{bucket_of}
use Rattle.table.proofs.index.bucket_of.Goals as goal

pub returns : goal.returns
unfolding bucket_of
returns c = record { value = refl; small = omega arith }
