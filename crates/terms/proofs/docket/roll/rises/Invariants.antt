use Rattle.std.proofs.Common.{◌≡◌, drop}
use Rattle.terms.specs.Rolls.{rises_from}
use Rattle.terms.proofs.docket.roll.rises.Given as goal

abbrev pub invariant-loop-code : goal.invariant-loop-code
invariant-loop-code l = rises_from 0 l.codes ≡ rises_from l.last (drop l.code-index l.codes)
