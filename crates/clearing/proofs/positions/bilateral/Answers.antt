use Rattle.std.proofs.Common.{rules, tests}
use Rattle.clearing.specs.Positions.{is_between}
use Rattle.clearing.proofs.positions.bilateral.Goals as goal

pub returns : goal.returns
returns c =
    let from_b = c.sum-from_b.ensures.sum (is_between c.args.b c.args.a) (λ e r k. search (rules, tests)) in
    let to_b = c.sum-to_b.ensures.sum (is_between c.args.a c.args.b) (λ e r k. search (rules, tests)) in
    search (rules, from_b, to_b)
