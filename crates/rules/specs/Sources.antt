-- What the shipped cover sources answer, and which reports they take.
use Rattle.std.specs.Prelude.{ℕ, ◌+◌, ◌*◌, ◌/◌, Bool, ◌&&◌, List, nat_le}
use Rattle.rules.specs.Books.{held_in}
use Rattle.rules.specs.Ranges.{is_from}
use Rattle.rules.specs.Reports.{amount_of}
use Rattle.rules.specs.declared.book.Report.{Report}
use Rattle.rules.specs.declared.sources.AnySource.{AnySource}
use Rattle.rules.specs.declared.sources.AnySource.TheVariants as any
use Rattle.rules.specs.declared.sources.pledges.Pledges.{Pledges}
use Rattle.rules.specs.declared.sources.statement.Statement.{Statement}

-- the codes that members have
abbrev pub is_member_code : ℕ → Bool
is_member_code code = is_from 1 999 code

-- whether a statement takes the balance for the code
abbrev pub is_balance : ℕ → ℕ → Bool
is_balance code balance = is_member_code code && nat_le balance 1_000_000_000_000_000

-- whether pledges take the balance, the pledge and its percentage for the code
abbrev pub is_pledge : ℕ → ℕ → ℕ → ℕ → Bool
is_pledge code balance pledge percent = is_member_code code && (nat_le balance 100_000_000_000_000 && (nat_le pledge 10_000_000_000_000 && nat_le percent 100))

-- the balance, and that percentage of the pledge, rounded down
abbrev pub pledged : ℕ → ℕ → ℕ → ℕ
pledged balance pledge percent = balance + pledge * percent / 100

-- the balances that a statement holds
abbrev pub balances_in : Statement → List Report
balances_in s = held_in s.book

-- what pledges hold: what each balance and pledge come to
abbrev pub pledges_in : Pledges → List Report
pledges_in p = held_in p.book

-- the last balance that was reported for the code, else 0
abbrev pub statement_cover : Statement → ℕ → ℕ
statement_cover s code = amount_of code (balances_in s)

-- what the last balance and pledge that were reported for the code come to, else 0
abbrev pub pledges_cover : Pledges → ℕ → ℕ
pledges_cover p code = amount_of code (pledges_in p)

-- either of them
abbrev pub any_cover : AnySource → ℕ → ℕ
any_cover (any.Statement s) code = statement_cover s code
any_cover (any.Pledges p) code = pledges_cover p code
