use Rattle.std.proofs.Common.{rules, tests}
use Rattle.clearing.specs.Choices.{is_on, payer_of, receiver_of}
use Rattle.clearing.proofs.positions.position.Goals as goal

pub returns : goal.returns
returns c =
    let received = c.sum-received.ensures.sum (is_on receiver_of c.args.member) (λ e r k. search (rules, tests)) in
    let paid = c.sum-paid.ensures.sum (is_on payer_of c.args.member) (λ e r k. search (rules, tests)) in
    search (rules, received, paid)
