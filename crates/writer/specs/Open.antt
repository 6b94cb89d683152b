-- What the writer's open states stand for, and what the checks on them say.
use Rattle.std.specs.Prelude.{◌≡◌, ℕ, List, length, Option}
use Rattle.std.specs.Borrow.{MutBor}
use Rattle.terms.specs.declared.refusal.Refusal.{Refusal}
use Rattle.wire.specs.declared.row.Row.{Row}
use Rattle.writer.specs.Drafts.{BatchDraft, FileDraft, batch_check_at, bound, first_of, row_check_at}
use Rattle.writer.specs.Stands.{Stands, StandsIn}
use Rattle.writer.specs.declared.states.BatchOpen.{BatchOpen}
use Rattle.writer.specs.declared.states.FileOpen.{FileOpen}

-- the buffer of an open file, and of an open batch
abbrev pub buffer_of : FileOpen → MutBor (List ℕ)
buffer_of f = f.out

abbrev pub batch_buffer_of : BatchOpen → MutBor (List ℕ)
batch_buffer_of b = b.out

-- an open file over a buffer that held `old` stands for a file so far
abbrev pub FileStands : FileDraft → List ℕ → FileOpen → Type 0
FileStands d old f = Stands d old (buffer_of f).now f.written.sofar

-- an open batch over a buffer that held `old` stands for a batch so far
abbrev pub BatchStands : BatchDraft → List ℕ → BatchOpen → Type 0
BatchStands d old b = StandsIn d old (batch_buffer_of b).now b.written.sofar b.refused

-- what the check of a batch's number says, by how far the file is written
abbrev pub number_check : FileOpen → ℕ → Option Refusal
number_check f n = first_of f.written.sofar.refused (batch_check_at (bound (length (buffer_of f).now)) f.written.sofar.len f.written.sofar.last n)

-- what the check of a row says, by how far the batch is written
abbrev pub row_check : BatchOpen → Row → Option Refusal
row_check b r = first_of b.refused (row_check_at (bound (length (batch_buffer_of b).now)) b.written.sofar.len b.written.sofar.kind r)

-- an open batch has what is written and what was refused as before, over the same bytes
pub record IsUnmoved (old new : BatchOpen) : Type 0 where
  pub bytes : (batch_buffer_of new).now ≡ (batch_buffer_of old).now
  pub written : new.written ≡ old.written
  pub refused : new.refused ≡ old.refused
