-- Sheets: what each member has paid and received over a choice of entries, and how many live entries it leaves out.
use Rattle.std.specs.Prelude.{◌≡◌, ℕ, ◌<◌, List, ℤ, pos, ◌-ℤ◌, slice_index}
use Rattle.clearing.specs.Sums.{dues, means}
use Rattle.clearing.specs.Choices.{Choice, left_out, paid, received, size}
use Rattle.clearing.specs.declared.entry.Entry.{Entry}
use Rattle.clearing.specs.declared.sheet.Sheet.{Sheet}

-- what a sheet says that the member at a place on the roll has paid, and received
abbrev pub paid_on : Sheet → ℕ → ℕ
paid_on s m = slice_index (dues s.balances.by_member) m

abbrev pub received_on : Sheet → ℕ → ℕ
received_on s m = slice_index (means s.balances.by_member) m

-- how many live entries it says are not kept
abbrev pub withdrawn_on : Sheet → ℕ
withdrawn_on s = s.withdrawn

-- the sheet says of each place on the roll what its member has paid and received over the choice
pub record SheetOf (es : List Entry) (C : Choice) (s : Sheet) : Type 0 where
  pub payments : (m : ℕ) → m < 64 → paid_on s m ≡ paid es C m
  pub receipts : (m : ℕ) → m < 64 → received_on s m ≡ received es C m
  pub withdrawn : withdrawn_on s ≡ size es (left_out es C)

-- the position that a sheet gives the member at a place on the roll
abbrev pub position_on : Sheet → ℕ → ℤ
position_on s m = pos (received_on s m) -ℤ pos (paid_on s m)
