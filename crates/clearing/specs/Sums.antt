-- The two sums that are kept of each member, in clearings and on sheets.
use Rattle.std.specs.Prelude.{ℕ, List, map}
use Rattle.clearing.specs.declared.balances.Balance.{Balance}

-- what each member is to pay or has paid, and what it has to pay it from or has received
abbrev pub dues : List Balance → List ℕ
dues bs = map (λ b. b.due) bs

abbrev pub means : List Balance → List ℕ
means bs = map (λ b. b.funds) bs
