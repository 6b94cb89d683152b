-- What the writing of a result answers, and when it is refused.
use Rattle.std.specs.Prelude.{ℕ, not, List, [], ◌∷◌, length, Result, nat_lt}
use Rattle.terms.specs.declared.refusal.Refusal.{Refusal}
use Rattle.terms.specs.declared.refusal.Refusal.TheVariants.{NotCleared, BufferShort}
use Rattle.session.specs.Parts.{stands_cleared}
use Rattle.session.specs.Refusals.{first_holding, rule, unless}
use Rattle.session.specs.declared.session.Session.{Session}
use Rattle.result.specs.Layout.{encode_result}
use Rattle.result.specs.Value.{result_of}

-- the bytes of the result file of a session
abbrev pub result_bytes : Session → List ℕ
result_bytes s = encode_result (result_of s)

-- the length of the result: only while cleared, and where it is no longer than a buffer of so many bytes
abbrev pub result_answer : Session → ℕ → Result ℕ Refusal
result_answer s room = unless (first_holding (rule NotCleared (not (stands_cleared s)) ∷ rule BufferShort (nat_lt room (length (result_bytes s))) ∷ [])) (length (result_bytes s))
