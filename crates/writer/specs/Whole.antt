-- A whole file, given with all its batches: when it is refused, and what writing them one after another makes.
use Rattle.std.specs.Prelude.{ℕ, ◌+◌, ◌*◌, Bool, true, cond, ◌&&◌, List, [], ◌∷◌, map, length, Some, None, Option, nat_le, nat_lt}
use Rattle.std.specs.List.{list_all}
use Rattle.terms.specs.declared.file_kind.FileKind.{FileKind}
use Rattle.terms.specs.declared.refusal.Refusal.{Refusal}
use Rattle.terms.specs.declared.refusal.Refusal.TheVariants.{WriterValue, WriterSpace, WriterKind}
use Rattle.wire.specs.Rows.{is_of}
use Rattle.wire.specs.declared.row.Row.{Row}
use Rattle.memberfile.specs.Headers.{ranged, raw_of}
use Rattle.memberfile.specs.Layout.{BatchValue, FileValue, encode}
use Rattle.memberfile.specs.declared.header.Header.{Header}
use Rattle.writer.specs.Drafts.{FileDraft, BatchDraft, closed, extended, started}
use Rattle.writer.specs.declared.batch_rows.BatchRows.{BatchRows}

abbrev pub batch_of : BatchRows → BatchValue
batch_of b = record { number = b.number; rows = b.rows.now }

-- the file with that header and those batches
abbrev pub file_of : Header → List BatchRows → FileValue
file_of h bs = record { header = h; batches = map batch_of bs }

-- the numbers of the batches rise from above n
abbrev pub rises_from : ℕ → List BatchValue → Bool
rises_from n [] = true
rises_from n (b ∷ bs) = nat_lt n b.number && rises_from b.number bs

-- each row is of a file of that kind
abbrev pub all_of : FileKind → List Row → Bool
all_of k = list_all (is_of k)

-- and so is each row of each batch
abbrev pub each_of : FileKind → List BatchValue → Bool
each_of k = list_all (λ b. all_of k b.rows)

-- how many bytes the batches take
abbrev pub batch_bytes : List BatchValue → ℕ
batch_bytes [] = 0
batch_bytes (b ∷ bs) = (33 + length b.rows * 16) + batch_bytes bs

-- 60 where a header value is out of range or a batch number is not above the last; 61 where the file has more bytes than there is room for;
-- 62 where a row is not of the file's kind
abbrev pub whole_check : ℕ → FileValue → Option Refusal
whole_check room f = cond (ranged (raw_of f.header) && rises_from 0 f.batches) (cond (nat_le (length (encode f)) room) (cond (each_of f.header.kind f.batches) None (Some WriterKind)) (Some WriterSpace)) (Some WriterValue)

-- rows put one after another
abbrev pub all_put : ℕ → BatchDraft → List Row → BatchDraft
all_put room d [] = d
all_put room d (r ∷ rs) = all_put room (extended room d r) rs

-- a batch opened, filled and closed
abbrev pub batch_put : ℕ → FileDraft → BatchValue → FileDraft
batch_put room d b = closed (all_put room (started room d b.number) b.rows)

-- batches written one after another
abbrev pub all_written : ℕ → FileDraft → List BatchValue → FileDraft
all_written room d [] = d
all_written room d (b ∷ bs) = all_written room (batch_put room d b) bs
