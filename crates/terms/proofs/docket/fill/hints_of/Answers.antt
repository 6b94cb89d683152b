use Rattle.std.proofs.Common.{arith}
use lib.Seq.{take-length}
use Rattle.terms.proofs.Rolls.{roll_facts}
use Rattle.terms.proofs.docket.fill.hints_of.Goals as goal

pub bounds-hints-from : goal.bounds-hints-from
bounds-hints-from c =
    let roll = c.args.roll.now in
    omega (arith, (roll_facts roll roll (take-length roll) c.requires).last c.loop-place.place c.loop-place-test.true)
