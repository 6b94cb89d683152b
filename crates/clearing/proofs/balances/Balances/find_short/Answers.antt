use Rattle.std.proofs.Common.{rules, tests}
use Rattle.std.proofs.lemmas.Iterator.{IsFirst-from_position, YieldsList-from_slice}
use Rattle.clearing.proofs.Sides.{IsEnough, IsShort, some_short}
use Rattle.clearing.proofs.balances.Balances.find_short.Goals as goal

pub returns : goal.returns
returns c =
    some_short c.args.self.now.by_member (search rules) _
    (IsFirst-from_position _ _ _ IsShort IsEnough c.position.ensures.ran (YieldsList-from_slice _ c.iter.ensures.rest) (λ x q k. search (rules, tests)) (λ x q k. search (rules, tests)))
