use Rattle.std.proofs.Common.{◌-◌, ◌∙◌, rules}
use Rattle.clearing.specs.Balances.{lowered}
use Rattle.clearing.specs.Sums.{dues, means}
use Rattle.clearing.proofs.Sides.{dues_changed, means_changed}
use Rattle.clearing.proofs.balances.Balances.take_out.Goals as goal

pub returns-clause-due : goal.returns-clause-due
returns-clause-due c =
    let w = c.from-worth.result in
    dues_changed c.args.self.now.by_member c.from.result c.from-2.result (record { due = 0; funds = 0 }) (search rules) (search rules) (λ n. n - w) (λ n. n - w)
    ∙ (λ i. lowered (dues c.args.self.now.by_member) (c.from.ensures i) (c.from-worth.ensures i))

pub returns-clause-funds : goal.returns-clause-funds
returns-clause-funds c =
    let w = c.from-worth.result in
    means_changed c.args.self.now.by_member c.from.result c.from-2.result (record { due = 0; funds = 0 }) (search rules) (search rules) (λ n. n - w) (λ n. n - w)
    ∙ (λ i. lowered (means c.args.self.now.by_member) (c.from-2.ensures i) (c.from-worth.ensures i))
