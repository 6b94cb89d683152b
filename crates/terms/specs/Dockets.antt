-- A docket as a value, and what filling one answers.
use Rattle.std.specs.Prelude.{◌≡◌, ℕ, cond, List, [], ◌∷◌, take, Some, None, Ok, Err, Option, Result}
use Rattle.terms.specs.Dates.{is_day}
use Rattle.terms.specs.Numbers.{currency_of, cycle_of}
use Rattle.terms.specs.Rolls.{is_roll}
use Rattle.terms.specs.declared.currency.Currency.{Currency}
use Rattle.terms.specs.declared.currency.Currency.TheVariants.{Soles}
use Rattle.terms.specs.declared.cycle.Cycle.{Cycle}
use Rattle.terms.specs.declared.cycle.Cycle.TheVariants.{Morning}
use Rattle.terms.specs.declared.docket.Docket.{Docket}
use Rattle.terms.specs.declared.refusal.Refusal.{Refusal}
use Rattle.terms.specs.declared.refusal.Refusal.TheVariants.{RollRule, DocketValue}

-- the roll of a docket
abbrev pub roll_of : Docket → List ℕ
roll_of d = take d.members d.codes

-- what a docket says
pub record Day : Type 0 where
  pub date : ℕ
  pub cycle : Cycle
  pub currency : Currency
  pub roll : List ℕ

abbrev pub day_of : Docket → Day
day_of d = record { date = d.date; cycle = d.cycle; currency = d.currency; roll = roll_of d }

abbrev pub day_by : Option Cycle → Option Currency → ℕ → List ℕ → Result Day Refusal
day_by None u date roll = Err DocketValue
day_by (Some y) None date roll = Err DocketValue
day_by (Some y) (Some u) date roll = cond (is_day date) (Ok (record { date = date; cycle = y; currency = u; roll = roll })) (Err DocketValue)

-- what a docket filled with these says, or why it is refused: the roll first, then date, cycle and currency
abbrev pub filled : ℕ → ℕ → ℕ → List ℕ → Result Day Refusal
filled date cycle currency roll = cond (is_roll roll) (day_by (cycle_of cycle) (currency_of currency) date roll) (Err RollRule)

-- the docket that is left says what it was filled with, or is as it was
abbrev pub Left : Result Day Refusal → Docket → Docket → Type 0
Left (Ok day) old new = day_of new ≡ day
Left (Err c) old new = new ≡ old

-- what the call answers
abbrev pub answer_of : Result Day Refusal → Result Unit Refusal
answer_of (Ok day) = Ok tt
answer_of (Err c) = Err c

-- what a docket that was made says, or why none was
abbrev pub said_by : Result Docket Refusal → Result Day Refusal
said_by (Ok d) = Ok (day_of d)
said_by (Err c) = Err c

-- the docket that is built in: two members, the morning in soles of the first working day of 2000
abbrev pub built_in : Day
built_in = record { date = 20000103; cycle = Morning; currency = Soles; roll = 1 ∷ 2 ∷ [] }
