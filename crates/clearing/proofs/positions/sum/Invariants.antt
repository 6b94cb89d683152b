use Rattle.std.proofs.Common.{◌≡◌, ◌*◌, ◌≤◌, Bool}
use Rattle.std.specs.Fn.{FnReturnsAt}
use Rattle.clearing.specs.Choices.{up_to, share}
use Rattle.clearing.specs.Table.{entries, kept}
use Rattle.clearing.specs.declared.entry.Entry.{Entry}
use Rattle.clearing.proofs.positions.sum.Given as goal

abbrev pub invariant-loop-place : goal.invariant-loop-place
invariant-loop-place g l =
    ((test : Entry → Bool) → ((e : Entry) (r : Bool) → FnReturnsAt g.F.Fn l.passes e r → r ≡ test e) → l.all ≡ up_to (share test (entries l.place-items) (kept l.place-items)) l.place-index)
    × (l.all ≤ l.place-index * 100_000_000)
