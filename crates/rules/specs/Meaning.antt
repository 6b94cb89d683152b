-- What an instrument means: the value made of all its answers.
use Rattle.std.specs.Prelude.{◌≡◌, ℕ, ◌≤◌, Bool, Ok, Result}
use Rattle.terms.specs.declared.currency.Currency.{Currency}
use Rattle.rules.specs.declared.instrument.Denial.{Denial}

pub record Meaning : Type 0 where
  -- by type, currency, amount and commission: the worth, or why the record is not admitted
  pub admit : ℕ → Currency → ℕ → ℕ → Result ℕ Denial
  pub origin_pays : Bool
  pub takes_returns : Bool

-- an admitted record is worth at most 100,000,000
abbrev pub Limited : Meaning → Type 0
Limited m = (t : ℕ) (c : Currency) (amount commission worth : ℕ) → m.admit t c amount commission ≡ Ok worth → worth ≤ 100000000
