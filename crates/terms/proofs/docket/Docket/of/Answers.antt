use Rattle.std.proofs.Common.{sym, ◌∙◌}
use Rattle.terms.proofs.Rolls.{roll_facts}
use Rattle.terms.proofs.docket.Docket.of.Goals as goal

pub invariant_of-result : goal.invariant_of-result
invariant_of-result c =
    let f = roll_facts c.args.roll.now c.padded.result c.padded.ensures (sym c.is_roll.ensures ∙ c.if-not-is_roll.false) in
    record { dated = sym c.is_day.ensures ∙ c.if-not-is_day.false; least = f.least; most = f.most; first = f.first; rising = f.rising; last = f.last }
