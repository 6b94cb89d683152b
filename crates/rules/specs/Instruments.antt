-- What the shipped instruments admit, and what a record that is admitted is worth.
use Rattle.std.specs.Prelude.{ℕ, ◌+◌, ◌-◌, Bool, true, false, cond, ◌&&◌, ◌||◌, Ok, Err, Result, ◌==◌, nat_le}
use Rattle.terms.specs.declared.currency.Currency.{Currency}
use Rattle.terms.specs.declared.currency.Currency.TheVariants.{Soles, Dollars}
use Rattle.rules.specs.declared.instrument.Denial.{Denial}
use Rattle.rules.specs.declared.instrument.Denial.TheVariants.{RecordType, Limits}
use Rattle.rules.specs.declared.instruments.AmountLimits.{AmountLimits}
use Rattle.rules.specs.declared.instruments.AnyInstrument.{AnyInstrument}
use Rattle.rules.specs.declared.instruments.AnyInstrument.TheVariants.{Transfers, Debits}
use Rattle.rules.specs.Meaning.{Meaning}
use Rattle.rules.specs.Ranges.{is_from}

-- the worth where type and values are those of the instrument; the type comes first
abbrev pub worth_if : Bool → Bool → ℕ → Result ℕ Denial
worth_if own_type lawful worth = cond own_type (cond lawful (Ok worth) (Err Limits)) (Err RecordType)

-- the limit for a currency
abbrev pub limit_of : AmountLimits → Currency → ℕ
limit_of limits Soles = limits.soles
limit_of limits Dollars = limits.dollars

-- the highest amount of a transfer, in céntimos
abbrev pub transfer_limit : Currency → ℕ
transfer_limit Soles = 30_000_000
transfer_limit Dollars = 10_000_000

-- the types of credit transfers
abbrev pub is_transfer_type : ℕ → Bool
is_transfer_type type = is_from 220 225 type

-- a record of one of these types that moves no money and asks whether the account is there
abbrev pub is_validation : ℕ → ℕ → ℕ → Bool
is_validation type amount commission = is_from 220 223 type && (amount == 0 && commission == 0)

-- a record that moves money
abbrev pub is_transfer : Currency → ℕ → ℕ → Bool
is_transfer currency amount commission = is_from 1 (transfer_limit currency) amount && is_from 0 10_000 commission

-- credit transfers: the origin pays amount and commission
abbrev pub transfers : Meaning
transfers = record {
  admit = λ type currency amount commission. worth_if (is_transfer_type type) (is_transfer currency amount commission || is_validation type amount commission) (amount + commission);
  origin_pays = true;
  takes_returns = true;
}

-- the highest amount of a debit, in céntimos
abbrev pub debit_limit : Currency → ℕ
debit_limit Soles = 7_000_000
debit_limit Dollars = 2_000_000

-- the type of charged debits
abbrev pub is_debit_type : ℕ → Bool
is_debit_type type = type == 100

-- the commission is never more than the amount it comes out of
abbrev pub is_debit : Currency → ℕ → ℕ → Bool
is_debit currency amount commission = is_from 1 (debit_limit currency) amount && (is_from 0 10_000 commission && nat_le commission amount)

-- charged debits: the origin pays the amount, less the commission
abbrev pub debits : Meaning
debits = record {
  admit = λ type currency amount commission. worth_if (is_debit_type type) (is_debit currency amount commission) (amount - commission);
  origin_pays = true;
  takes_returns = false;
}

-- either of them
abbrev pub any_instrument : AnyInstrument → Meaning
any_instrument Transfers = transfers
any_instrument Debits = debits
