use Rattle.std.proofs.Common.{◌<◌, length, sym, ap, ◌∙◌, arith, length-take}
use Rattle.terms.specs.Dockets.{roll_of}
use Rattle.terms.specs.Rolls.{place_in}
use Rattle.terms.proofs.Members.{code_is, place_of_code}
use Rattle.terms.proofs.docket.Docket.place_of.Goals as goal

pub returns-then-self-place : goal.returns-then-self-place
returns-then-self-place c =
    let d = c.args.self.now in
    let l : c.hint-place.result < length (roll_of d) = omega (arith, length-take d.members d.codes) in
    sym (ap (place_in (roll_of d)) (sym (code_is d _ l ∙ c.if-self-place.true)) ∙ place_of_code d _ l)
