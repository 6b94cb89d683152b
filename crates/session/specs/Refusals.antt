-- The order of refusals: of those tried in turn, the first whose words hold.
use Rattle.std.specs.Prelude.{Bool, cond, List, [], ◌∷◌, Some, None, Ok, Err, Option, Result}
use Rattle.terms.specs.declared.refusal.Refusal.{Refusal}

-- a refusal, and whether its words hold
pub record Rule : Type 0 where
  pub refusal : Refusal
  pub holds : Bool

abbrev pub rule : Refusal → Bool → Rule
rule c b = record { refusal = c; holds = b }

-- the first refusal whose words hold
abbrev pub first_holding : List Rule → Option Refusal
first_holding [] = None
first_holding (r ∷ rs) = cond r.holds (Some r.refusal) (first_holding rs)

-- what is taken, unless a refusal holds
abbrev pub unless : {X : Type 0} → Option Refusal → X → Result X Refusal
unless None x = Ok x
unless (Some c) x = Err c
