use Rattle.clearing.specs.Table.{entries, kept}
use Rattle.clearing.proofs.Added.{Added}
use Rattle.clearing.proofs.sheet.Sheet.add_up.Given as goal

abbrev pub invariant-loop-place : goal.invariant-loop-place
invariant-loop-place l = Added (entries l.place-items) (kept l.place-items) l.place-index l.balances.by_member l.withdrawn
