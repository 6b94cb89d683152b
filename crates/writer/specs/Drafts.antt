-- What a writer stands for: the file so far, with the open batch, or the refusal that it was opened against; and what each call makes of it.
use Rattle.std.specs.Prelude.{ℕ, ◌+◌, min, Bool, false, cond, List, [], ◌∷◌, ◌++◌, length, Some, None, Ok, Err, Option, Result, nat_le, nat_lt}
use Rattle.terms.specs.declared.file_kind.FileKind.{FileKind}
use Rattle.terms.specs.declared.refusal.Refusal.{Refusal}
use Rattle.terms.specs.declared.refusal.Refusal.TheVariants.{WriterValue, WriterSpace, WriterKind}
use Rattle.wire.specs.Rows.{is_of}
use Rattle.wire.specs.declared.row.Row.{Row}
use Rattle.memberfile.specs.Headers.{ranged, raw_of}
use Rattle.memberfile.specs.Layout.{BatchValue, FileValue, enc_batch_head, enc_batches, enc_file_head, enc_rows, encode}
use Rattle.memberfile.specs.declared.header.Header.{Header}

-- a file to which batches may be added
pub data FileDraft : Type 0 where
  -- opened against its check
  refused : Refusal → FileDraft
  -- the header and the batches so far
  drafted : FileValue → FileDraft

-- a batch to which rows may be added
pub data BatchDraft : Type 0 where
  -- opened against its check, in a file that goes on
  turned : Refusal → FileDraft → BatchDraft
  -- the file so far, and the batch with its rows so far
  drafting : FileValue → BatchValue → BatchDraft

-- the bytes that a file so far begins with
abbrev pub begun : FileValue → List ℕ
begun f = enc_file_head f.header ++ enc_batches f.header f.batches

-- and with an open batch
abbrev pub begun_with : FileValue → BatchValue → List ℕ
begun_with f b = begun f ++ (enc_batch_head f.header b.number ++ enc_rows b.rows)

abbrev pub blank_file : Header → FileValue
blank_file h = record { header = h; batches = [] }

abbrev pub blank_batch : ℕ → BatchValue
blank_batch n = record { number = n; rows = [] }

abbrev pub with_batch : FileValue → BatchValue → FileValue
with_batch f b = record { header = f.header; batches = f.batches ++ (b ∷ []) }

abbrev pub with_row : BatchValue → Row → BatchValue
with_row b r = record { number = b.number; rows = b.rows ++ (r ∷ []) }

-- the number of the last of some batches, or n where there is none
abbrev pub last_from : ℕ → List BatchValue → ℕ
last_from n [] = n
last_from n (b ∷ bs) = last_from b.number bs

-- how many bytes of a buffer of n bytes a file may take
abbrev pub bound : ℕ → ℕ
bound n = min n 65535

-- the first refusal, if there is one
abbrev pub first_of : Option Refusal → Option Refusal → Option Refusal
first_of (Some c) o = Some c
first_of None o = o

-- 61 where a record and the ends still due do not fit
abbrev pub space_for : ℕ → ℕ → Option Refusal
space_for room n = cond (nat_lt room n) (Some WriterSpace) None

-- 60 where a header value is out of range; 61 where a header and a file end do not fit
abbrev pub file_check : ℕ → Header → Option Refusal
file_check room h = cond (ranged (raw_of h)) (space_for room 40) (Some WriterValue)

-- 60 where the number is not above the last; 61 where a batch header, a batch end and a file end do not fit behind the length
abbrev pub batch_check_at : ℕ → ℕ → ℕ → ℕ → Option Refusal
batch_check_at room len last n = cond (nat_lt last n) (space_for room (len + 60)) (Some WriterValue)

-- 61 where a row, a batch end and a file end do not fit behind the length; 62 where the row is not of the file's kind
abbrev pub row_check_at : ℕ → ℕ → FileKind → Row → Option Refusal
row_check_at room len k r = cond (nat_lt room (len + 70)) (Some WriterSpace) (cond (is_of k r) None (Some WriterKind))

-- an end is due behind the length: not where the opening was refused, else where it fits
abbrev pub end_due : Option Refusal → ℕ → ℕ → Bool
end_due (Some c) n len = false
end_due None n len = nat_le (len + 27) (bound n)

-- what a batch's check says
abbrev pub batch_check : ℕ → FileDraft → ℕ → Option Refusal
batch_check room (refused c) n = Some c
batch_check room (drafted f) n = batch_check_at room (length (begun f)) (last_from 0 f.batches) n

-- what a put answers
abbrev pub put_check : ℕ → BatchDraft → Row → Option Refusal
put_check room (turned c d) r = Some c
put_check room (drafting f b) r = row_check_at room (length (begun_with f b)) f.header.kind r

abbrev pub opened_by : Option Refusal → Header → FileDraft
opened_by (Some c) h = refused c
opened_by None h = drafted (blank_file h)

-- a file opened
abbrev pub opened : ℕ → Header → FileDraft
opened room h = opened_by (file_check room h) h

abbrev pub started_by : Option Refusal → FileDraft → ℕ → BatchDraft
started_by (Some c) d n = turned c d
started_by None (refused c) n = turned c (refused c)
started_by None (drafted f) n = drafting f (blank_batch n)

-- a batch opened
abbrev pub started : ℕ → FileDraft → ℕ → BatchDraft
started room d n = started_by (batch_check room d n) d n

abbrev pub extended_by : Option Refusal → BatchDraft → Row → BatchDraft
extended_by (Some c) d r = d
extended_by None (turned c d) r = turned c d
extended_by None (drafting f b) r = drafting f (with_row b r)

-- a row put
abbrev pub extended : ℕ → BatchDraft → Row → BatchDraft
extended room d r = extended_by (put_check room d r) d r

-- a batch closed
abbrev pub closed : BatchDraft → FileDraft
closed (turned c d) = d
closed (drafting f b) = drafted (with_batch f b)

-- the bytes of a file finished
abbrev pub finished_bytes : FileDraft → List ℕ
finished_bytes (refused c) = []
finished_bytes (drafted f) = encode f

-- the refusal in an answer, if it is one
abbrev pub refusal_in : {V : Type 0} → Result V Refusal → Option Refusal
refusal_in (Ok v) = None
refusal_in (Err c) = Some c
