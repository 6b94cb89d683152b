use Rattle.std.proofs.Common.{◌≡◌, ℕ, ◌<◌}
use Rattle.clearing.specs.Sums.{dues, means}
use Rattle.clearing.specs.Choices.{live, payer_of, receiver_of}
use Rattle.clearing.specs.Table.{entries, kept, cover_of}
use Rattle.clearing.proofs.Tallied.{Tallied}
use Rattle.clearing.proofs.netting.keep_live.Given as goal

abbrev pub invariant-loop-place : goal.invariant-loop-place
invariant-loop-place l =
    let es = entries l.initial.places in
    (entries l.places ≡ es)
    × ((k : ℕ) → k < l.place-index → kept l.places k ≡ live es k)
    × Tallied payer_of es (live es) (λ m. 0) l.place-index (dues l.balances.by_member)
    × Tallied receiver_of es (live es) (cover_of l.covers) l.place-index (means l.balances.by_member)
