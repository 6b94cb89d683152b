-- What is found by a number, or that the number names nothing.
use Rattle.std.specs.Prelude.{ℕ, Some, None, Ok, Err, Option, Result}
use Rattle.terms.specs.declared.unknown.UnknownNumber.{UnknownNumber}

abbrev pub named : {A : Type 0} → Option A → ℕ → Result A UnknownNumber
named (Some x) n = Ok x
named None n = Err (record { 0 = n })
