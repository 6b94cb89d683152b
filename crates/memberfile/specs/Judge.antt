-- The verdict on the bytes of a member file: the file that they say, or the first fault.
use Rattle.std.specs.Prelude.{ℕ, zero, suc, ◌+◌, cond, List, [], ◌∷◌, ◌++◌, length, drop, Some, None, Ok, Err, Option, Result, nat_lt}
use Rattle.terms.specs.Codes.{fields_fault, file_fault}
use Rattle.terms.specs.declared.fault.Fault.{Fault}
use Rattle.terms.specs.declared.refusal.Refusal.TheVariants.{FileTooLong, OutOfOrder}
use Rattle.wire.specs.Records.{Piece, first_record, at_place}
use Rattle.wire.specs.Rows.{presented}
use Rattle.wire.specs.declared.row.Row.{Row}
use Rattle.memberfile.specs.Stages.{step_at}
use Rattle.memberfile.specs.Layout.{BatchValue, FileValue, all_rows}
use Rattle.memberfile.specs.declared.check.Summary.{Summary}
use Rattle.memberfile.specs.declared.header.Header.{Header}
use Rattle.memberfile.specs.declared.stage.Moved.{Moved}
use Rattle.memberfile.specs.declared.stage.Stage.{Stage}
use Rattle.memberfile.specs.declared.stage.Stage.TheVariants.{BeforeHeader, Between, InBatch, AfterEnd}

abbrev pub turned_by : ℕ → Stage → Result Piece Fault → Result Moved Fault
turned_by n s (Ok p) = step_at n s p
turned_by n s (Err f) = Err f

-- reading the record at the front of the bytes, which stand at place n, in stage s
abbrev pub turned : ℕ → Stage → List ℕ → Result Moved Fault
turned n s bs = turned_by n s (at_place n (first_record bs))

-- how many bytes the first record has
abbrev pub gone_by : {E : Type 0} → Result Piece E → ℕ
gone_by (Ok p) = 3 + length p.value
gone_by (Err c) = 0

abbrev pub gone : List ℕ → ℕ
gone bs = gone_by (first_record bs)

-- a record where none may stand
abbrev pub disorder : ℕ → Fault
disorder n = file_fault OutOfOrder n

-- the batches that are closed, and the rows of the open one
pub record Log : Type 0 where
  pub closed : List BatchValue
  pub held : List Row

abbrev pub blank : Log
blank = record { closed = []; held = [] }

abbrev pub logged_row : Option Row → Log → Log
logged_row (Some r) g = record { closed = g.closed; held = g.held ++ (r ∷ []) }
logged_row None g = g

abbrev pub logged_in : ℕ → Option Row → Log → Log
logged_in n (Some r) g = record { closed = g.closed; held = g.held ++ (r ∷ []) }
logged_in n None g = record { closed = g.closed ++ (record { number = n; rows = g.held } ∷ []); held = [] }

-- a step out of stage s, logged: in a batch a step with no row closes the batch
abbrev pub logged : Stage → Moved → Log → Log
logged BeforeHeader m g = logged_row m.row g
logged (Between a) m g = logged_row m.row g
logged (InBatch a b) m g = logged_in b.number m.row g
logged (AfterEnd a) m g = logged_row m.row g

abbrev pub Verdict : Type 0
Verdict = Result FileValue Fault

-- behind the file end no byte may stand
abbrev pub ended : Header → Log → ℕ → List ℕ → Verdict
ended h g n [] = Ok (record { header = h; batches = g.closed })
ended h g n (b ∷ bs) = Err (disorder n)

abbrev pub ending : Stage → Option Header
ending BeforeHeader = None
ending (Between a) = None
ending (InBatch a b) = None
ending (AfterEnd a) = Some a.header

-- how a check goes on: at its end, with what it met, or at a fault
abbrev pub onward : Option Header → Result Moved Fault → (Header → Verdict) → (Moved → Verdict) → Verdict
onward (Some h) t end go = end h
onward None (Ok m) end go = go m
onward None (Err f) end go = Err f

-- the verdict on the bytes at place n in stage s, with the log so far; k is more than the records that are left
abbrev pub run : ℕ → Stage → Log → ℕ → List ℕ → Verdict
run zero s g n bs = Err (disorder n)
run (suc k) s g n bs = onward (ending s) (turned n s bs) (λ h. ended h g n bs) (λ m. run k m.stage (logged s m g) (n + gone bs) (drop (gone bs) bs))

abbrev pub too_long : Fault
too_long = fields_fault FileTooLong 0

-- the verdict on the bytes of a file
unfoldable pub judge : List ℕ → Verdict
judge bs = cond (nat_lt 65535 (length bs)) (Err too_long) (run (suc (length bs)) BeforeHeader blank 0 bs)

abbrev pub summary_of : FileValue → Summary
summary_of f = record { header = f.header; batches = length f.batches; rows = length (all_rows f.batches); presentations = presented (all_rows f.batches) }

-- a verdict with the file's summary in place of the file
abbrev pub summed : Verdict → Result Summary Fault
summed (Ok f) = Ok (summary_of f)
summed (Err x) = Err x
