use Rattle.std.proofs.Common.{◌≡◌, ℕ, ◌<◌, length, get_or}
use Rattle.clearing.specs.Sums.{dues, means}
use Rattle.clearing.proofs.balances.Balances.of.Given as goal

abbrev pub invariant-loop-m : goal.invariant-loop-m
invariant-loop-m l =
    (length l.by_member ≡ 64)
    × ((k : ℕ) → get_or (dues l.by_member) k 0 ≡ 0)
    × ((k : ℕ) → k < l.m → get_or (means l.by_member) k 0 ≡ get_or l.covers.amounts k 0)
