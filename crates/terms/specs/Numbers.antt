-- The numbers by which files and results name a currency, a cycle and a file kind.
use Rattle.std.specs.Prelude.{ℕ, cond, Some, None, Option, ◌==◌}
use Rattle.terms.specs.declared.currency.Currency.{Currency}
use Rattle.terms.specs.declared.currency.Currency.TheVariants.{Soles, Dollars}
use Rattle.terms.specs.declared.cycle.Cycle.{Cycle}
use Rattle.terms.specs.declared.cycle.Cycle.TheVariants.{Morning, Intermediate, Afternoon}
use Rattle.terms.specs.declared.file_kind.FileKind.{FileKind}
use Rattle.terms.specs.declared.file_kind.FileKind.TheVariants.{Presentations, Returns}

abbrev pub currency_number : Currency → ℕ
currency_number Soles = 1
currency_number Dollars = 2

-- the currency with a number
abbrev pub currency_of : ℕ → Option Currency
currency_of n = cond (n == 1) (Some Soles) (cond (n == 2) (Some Dollars) None)

abbrev pub cycle_number : Cycle → ℕ
cycle_number Morning = 1
cycle_number Intermediate = 2
cycle_number Afternoon = 3

-- the cycle with a number
abbrev pub cycle_of : ℕ → Option Cycle
cycle_of n = cond (n == 1) (Some Morning) (cond (n == 2) (Some Intermediate) (cond (n == 3) (Some Afternoon) None))

abbrev pub kind_number : FileKind → ℕ
kind_number Presentations = 1
kind_number Returns = 2

-- the file kind with a number
abbrev pub kind_of : ℕ → Option FileKind
kind_of n = cond (n == 1) (Some Presentations) (cond (n == 2) (Some Returns) None)

-- the number that the batch headers of a file of that kind carry
abbrev pub batch_kind : FileKind → ℕ
batch_kind Presentations = 32
batch_kind Returns = 31
