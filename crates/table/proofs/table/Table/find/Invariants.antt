use Rattle.std.proofs.Common.{◌≡◌, ℕ, suc, ◌≤◌}
use Rattle.table.specs.Buckets.{bucket_at, bucket_of, name_of}
use Rattle.table.specs.Entries.{entries_of, is_record}
use Rattle.table.proofs.Chains.{from}
use Rattle.table.proofs.Indexed.{all_entries}
use Rattle.table.proofs.table.Table.find.Given as goal

-- the next of the chain is held and in the bucket, and what was found is the first record from it on
abbrev pub invariant-loop-next : goal.invariant-loop-next
invariant-loop-next l =
    (name_of l.next ≤ l.self.held)
    × ((k : ℕ) → name_of l.next ≡ suc k → bucket_at (all_entries l.self) k ≡ bucket_of l.origin l.reference)
    × (l.found ≡ from (is_record l.origin l.reference) (entries_of l.self) (name_of l.next))

abbrev pub decreases-loop-next : goal.decreases-loop-next
decreases-loop-next l = name_of l.next
