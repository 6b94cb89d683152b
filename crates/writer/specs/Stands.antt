-- When a buffer, with how far it is written, stands for a file or a batch so far.
use Rattle.std.specs.Prelude.{◌≡◌, ℕ, ◌+◌, ◌<◌, ◌≤◌, List, ◌++◌, length, take, Some, None, Ok, Option}
use Rattle.terms.specs.declared.refusal.Refusal.{Refusal}
use Rattle.wire.specs.Rows.{no_totals, tally}
use Rattle.memberfile.specs.Judge.{judge}
use Rattle.memberfile.specs.Layout.{BatchValue, FileValue, Formed, FormedBatches, FormedRows, LawfulHeader, all_rows}
use Rattle.pen.specs.Buffer.{fronted}
use Rattle.writer.specs.Drafts.{FileDraft, refused, drafted, BatchDraft, turned, drafting, begun, begun_with, bound, last_from, finished_bytes}
use Rattle.writer.specs.declared.progress.Progress.{Progress}

-- The buffer, which held `old`, begins with the bytes of the file so far and is as it was behind them; there is space for the file end;
-- numbers, kind and totals are the file's; and the file so far is well-formed.
pub record Upto (f : FileValue) (old out : List ℕ) (p : Progress) : Type 0 where
  pub bytes : out ≡ fronted (begun f) old
  pub len : p.len ≡ length (begun f)
  pub room : p.len + 27 ≤ bound (length old)
  pub on : p.refused ≡ None
  pub kind : p.kind ≡ f.header.kind
  pub batches : p.batches ≡ length f.batches
  pub last : p.last ≡ last_from 0 f.batches
  pub totals : p.totals ≡ tally no_totals (all_rows f.batches)
  pub header : LawfulHeader f.header
  pub formed : FormedBatches f.header.kind 0 f.batches

-- The same with an open batch, and space for the batch end and the file end.
pub record Within (f : FileValue) (b : BatchValue) (old out : List ℕ) (p : Progress) : Type 0 where
  pub bytes : out ≡ fronted (begun_with f b) old
  pub len : p.len ≡ length (begun_with f b)
  pub room : p.len + 54 ≤ bound (length old)
  pub on : p.refused ≡ None
  pub kind : p.kind ≡ f.header.kind
  pub batches : p.batches ≡ length f.batches
  pub last : p.last ≡ b.number
  pub totals : p.totals ≡ tally no_totals (all_rows f.batches ++ b.rows)
  pub held : p.held ≡ tally no_totals b.rows
  pub header : LawfulHeader f.header
  pub formed : FormedBatches f.header.kind 0 f.batches
  pub above : last_from 0 f.batches < b.number
  pub fits : b.number < 65536
  pub rows : FormedRows f.header.kind b.rows

-- a buffer that held `old` stands for a file so far; opened against its check, it is as it was
abbrev pub Stands : FileDraft → List ℕ → List ℕ → Progress → Type 0
Stands (refused c) old out p = (out ≡ old) × (p.len ≡ 0) × (p.refused ≡ Some c)
Stands (drafted f) old out p = Upto f old out p

-- and for a batch so far
abbrev pub StandsIn : BatchDraft → List ℕ → List ℕ → Progress → Option Refusal → Type 0
StandsIn (turned c d) old out p o = Stands d old out p × (o ≡ Some c)
StandsIn (drafting f b) old out p o = Within f b old out p × (o ≡ None)

-- what is finished reads back: the file is well-formed, and the check of its bytes says exactly that file
abbrev pub ReadsBack : FileDraft → List ℕ → Type 0
ReadsBack (refused c) bs = Unit {0}
ReadsBack (drafted f) bs = Formed f × (judge bs ≡ Ok f)

-- a buffer that held `old` holds a finished file of n bytes, and behind them is as it was
pub record Done (d : FileDraft) (old out : List ℕ) (n : ℕ) : Type 0 where
  pub bytes : out ≡ fronted (finished_bytes d) old
  pub len : n ≡ length (finished_bytes d)
  pub back : ReadsBack d (take n out)
