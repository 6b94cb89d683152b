-- The rules of a file record by record: where the check stands and the record it meets decide the next step, or the fault.
use Rattle.std.specs.Prelude.{ℕ, ◌+◌, ◌≤◌, cond, ◌&&◌, List, Some, None, Ok, Err, Option, Result, ◌==◌, nat_le}
use Rattle.terms.specs.Codes.{file_fault}
use Rattle.terms.specs.Numbers.{batch_kind}
use Rattle.terms.specs.declared.fault.Fault.{Fault}
use Rattle.terms.specs.declared.refusal.Refusal.{Refusal}
use Rattle.terms.specs.declared.refusal.Refusal.TheVariants.{OutOfOrder, WrongKind, BatchNumber, TotalDiffers, HeaderValue}
use Rattle.wire.specs.Records.{Piece}
use Rattle.wire.specs.Rows.{Even, is_of, no_totals, plus, presentations, same_totals}
use Rattle.wire.specs.Values.{raw_header_in, batch_head_in, presentation_in, return_in, closing_in}
use Rattle.wire.specs.declared.record.Tag.{Tag}
use Rattle.wire.specs.declared.record.Tag.TheVariants.{FileHeader, BatchHeader, Presentation as t_presentation, Return as t_return, BatchEnd, FileEnd}
use Rattle.wire.specs.declared.row.Row.{Row}
use Rattle.wire.specs.declared.row.Row.TheVariants.{Presentation, Return}
use Rattle.memberfile.specs.Headers.{header_of}
use Rattle.memberfile.specs.declared.header.Header.{Header}
use Rattle.memberfile.specs.declared.stage.Sofar.{Sofar}
use Rattle.memberfile.specs.declared.stage.OpenBatch.{OpenBatch}
use Rattle.memberfile.specs.declared.stage.Stage.{Stage}
use Rattle.memberfile.specs.declared.stage.Stage.TheVariants.{BeforeHeader, Between, InBatch, AfterEnd}
use Rattle.memberfile.specs.declared.stage.Moved.{Moved}

abbrev pub goes_to : Stage → Moved
goes_to s = record { stage = s; row = None }

abbrev pub goes : Stage → Result Moved Refusal
goes s = Ok (goes_to s)

-- a file of which only the header is known
abbrev pub begun : Header → Sofar
begun h = record { header = h; batches = 0; last = 0; presentations = 0; totals = no_totals }

abbrev pub opened_by : Option Header → Result Moved Refusal
opened_by (Some h) = goes (Between (begun h))
opened_by None = Err HeaderValue

abbrev pub file_opened : List ℕ → Result Moved Refusal
file_opened v = opened_by (header_of (raw_header_in v))

-- a batch of which only the number is known
abbrev pub fresh : ℕ → OpenBatch
fresh n = record { number = n; totals = no_totals }

abbrev pub batch_opened : Sofar → List ℕ → Result Moved Refusal
batch_opened s v = cond ((batch_head_in v).kind == batch_kind s.header.kind) (cond (nat_le (batch_head_in v).number s.last) (Err BatchNumber) (goes (InBatch s (fresh (batch_head_in v).number)))) (Err WrongKind)

-- the file and the batch with one row more
abbrev pub row_in : Sofar → OpenBatch → Row → Stage
row_in s b r = InBatch (record { header = s.header; batches = s.batches; last = s.last; presentations = s.presentations + presentations r; totals = plus s.totals r }) (record { number = b.number; totals = plus b.totals r })

abbrev pub took : Sofar → OpenBatch → Row → Moved
took s b r = record { stage = row_in s b r; row = Some r }

abbrev pub takes : Sofar → OpenBatch → Row → Result Moved Refusal
takes s b r = cond (is_of s.header.kind r) (Ok (took s b r)) (Err WrongKind)

-- the file with its open batch closed
abbrev pub shut_batch : Sofar → OpenBatch → Sofar
shut_batch s b = record { header = s.header; batches = s.batches + 1; last = b.number; presentations = s.presentations; totals = s.totals }

abbrev pub batch_closed : Sofar → OpenBatch → List ℕ → Result Moved Refusal
batch_closed s b v = cond ((closing_in v).number == b.number) (cond (same_totals (closing_in v).totals b.totals) (goes (Between (shut_batch s b))) (Err TotalDiffers)) (Err BatchNumber)

abbrev pub file_closed : Sofar → List ℕ → Result Moved Refusal
file_closed s v = cond ((closing_in v).number == s.batches && same_totals (closing_in v).totals s.totals) (goes (AfterEnd s)) (Err TotalDiffers)

abbrev pub before_header : Tag → List ℕ → Result Moved Refusal
before_header FileHeader v = file_opened v
before_header BatchHeader v = Err OutOfOrder
before_header t_presentation v = Err OutOfOrder
before_header t_return v = Err OutOfOrder
before_header BatchEnd v = Err OutOfOrder
before_header FileEnd v = Err OutOfOrder

abbrev pub between : Sofar → Tag → List ℕ → Result Moved Refusal
between s FileHeader v = Err OutOfOrder
between s BatchHeader v = batch_opened s v
between s t_presentation v = Err OutOfOrder
between s t_return v = Err OutOfOrder
between s BatchEnd v = Err OutOfOrder
between s FileEnd v = file_closed s v

abbrev pub in_batch : Sofar → OpenBatch → Tag → List ℕ → Result Moved Refusal
in_batch s b FileHeader v = Err OutOfOrder
in_batch s b BatchHeader v = Err OutOfOrder
in_batch s b t_presentation v = takes s b (Presentation (presentation_in v))
in_batch s b t_return v = takes s b (Return (return_in v))
in_batch s b BatchEnd v = batch_closed s b v
in_batch s b FileEnd v = Err OutOfOrder

-- the next step
abbrev pub stepped : Stage → Piece → Result Moved Refusal
stepped BeforeHeader p = before_header p.tag p.value
stepped (Between s) p = between s p.tag p.value
stepped (InBatch s b) p = in_batch s b p.tag p.value
stepped (AfterEnd s) p = Err OutOfOrder

abbrev pub step_placed : ℕ → Result Moved Refusal → Result Moved Fault
step_placed n (Ok m) = Ok m
step_placed n (Err c) = Err (file_fault c n)

-- the next step at a record that stands at place n
abbrev pub step_at : ℕ → Stage → Piece → Result Moved Fault
step_at n s p = step_placed n (stepped s p)

-- the counters of a stage keep to n
abbrev pub RoomSofar : ℕ → Sofar → Type 0
RoomSofar n s = Even s.totals × (s.totals.count ≤ n) × (s.batches ≤ n) × (s.presentations ≤ n)

abbrev pub Room : ℕ → Stage → Type 0
Room n BeforeHeader = Unit {0}
Room n (Between s) = RoomSofar n s
Room n (InBatch s b) = RoomSofar n s × Even b.totals × (b.totals.count ≤ n)
Room n (AfterEnd s) = Unit {0}
