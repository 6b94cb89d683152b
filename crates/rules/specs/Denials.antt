-- The refusal that a row gets where the instrument does not admit it.
use Rattle.terms.specs.declared.refusal.Refusal.{Refusal}
use Rattle.terms.specs.declared.refusal.Refusal.TheVariants as refusal
use Rattle.rules.specs.declared.instrument.Denial.{Denial}
use Rattle.rules.specs.declared.instrument.Denial.TheVariants as denial

-- a type that is not the instrument's, or amount or commission not admitted
abbrev pub refusal_of : Denial → Refusal
refusal_of denial.RecordType = refusal.RecordType
refusal_of denial.Limits = refusal.NotAdmitted
