-- The buckets that records fall into, and how an index chains the entries of a bucket.
use Rattle.std.specs.Prelude.{◌≡◌, ℕ, zero, suc, ◌+◌, ◌*◌, ◌/◌, ◌%◌, ◌<◌, cond, List, Option, Some, None, ◌==◌, slice_index}
use Rattle.clearing.specs.Choices.{entry_at}
use Rattle.clearing.specs.declared.entry.Entry.{Entry}

-- the bucket of the record that an origin presented with a reference
unfoldable pub bucket_of : ℕ → ℕ → ℕ
bucket_of origin reference = (reference * 1640531527 + origin * 1540483477) / 1048576 % 4096

-- the bucket of the entry at a place
abbrev pub bucket_at : List Entry → ℕ → ℕ
bucket_at es i = bucket_of (entry_at es i).origin (entry_at es i).reference

-- how an index names the entry at a place, or none
abbrev pub name_of : Option ℕ → ℕ
name_of None = 0
name_of (Some i) = suc i

-- 1 + the last of the first n places that is in a bucket, where `at` says the bucket of each place; 0 if none is
abbrev pub last_below : (ℕ → ℕ) → ℕ → ℕ → ℕ
last_below at bucket zero = 0
last_below at bucket (suc n) = cond (at n == bucket) (suc n) (last_below at bucket n)

-- each head names the last of the first n entries that is in its bucket
abbrev pub Heads : List ℕ → List Entry → ℕ → Type 0
Heads heads es n = (bucket : ℕ) → bucket < 4096 → slice_index heads bucket ≡ last_below (bucket_at es) bucket n

-- each link of the first n names the last entry before it that is in the same bucket
abbrev pub Links : List ℕ → List Entry → ℕ → Type 0
Links links es n = (i : ℕ) → i < n → slice_index links i ≡ last_below (bucket_at es) (bucket_at es i) i
