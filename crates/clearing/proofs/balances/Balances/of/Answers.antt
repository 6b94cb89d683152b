use Rattle.std.proofs.Common.{◌≡◌, ℕ, ◌<◌, ◌≢◌, List, length, get_or, set, refl, ap, ◌∙◌, arith, length-set, below_more}
use Rattle.std.proofs.lemmas.List.{get_or-set_same, get_or-set_other, map-set}
use Rattle.clearing.specs.Sums.{means}
use Rattle.clearing.specs.declared.balances.Balance.{Balance}
use Rattle.clearing.proofs.Sides.{dues_kept, means_long, none_due}
use Rattle.clearing.proofs.balances.Balances.of.Goals as goal

pub loop-m-init : goal.loop-m-init
loop-m-init c = (refl, none_due, λ k h. absurd (omega arith))

pub loop-m-preserved : goal.loop-m-preserved
loop-m-preserved c =
    let bs = c.loop-m.by_member in
    let m = c.loop-m.m in
    let inv = c.loop-m.invariant in
    let d : Balance = record { due = 0; funds = 0 } in
    let w = get_or c.args.covers.now.amounts m 0 in
    let x : Balance = record { due = (get_or bs m d).due; funds = w } in
    let lt : m < length bs = omega arith in
    let set_means : (k : ℕ) → get_or (means (set bs m x)) k 0 ≡ get_or (set (means bs) m w) k 0 = λ k. ap (λ (ys : List ℕ). get_or ys k 0) (map-set (λ (b : Balance). b.funds) bs m x) in (
      length-set bs m x ∙ inv.0,
      λ k. ap (λ (ys : List ℕ). get_or ys k 0) (dues_kept bs m d lt x refl) ∙ inv.1 k,
      below_more _ _
          (λ k h. let ne : k ≢ m = omega arith in set_means k ∙ get_or-set_other (means bs) m k w 0 ne ∙ inv.2 k h)
          (set_means m ∙ get_or-set_same (means bs) m w 0 (omega (arith, means_long bs))),
    )
