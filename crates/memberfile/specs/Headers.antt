-- The header of a member file: which values are in range, and which header the bytes say.
use Rattle.std.specs.Prelude.{◌≡◌, ◌≤◌, Bool, true, cond, ◌&&◌, Some, None, Option, nat_le}
use Rattle.terms.specs.Dates.{is_day}
use Rattle.terms.specs.Numbers.{currency_number, currency_of, cycle_number, cycle_of, kind_number, kind_of}
use Rattle.terms.specs.declared.currency.Currency.{Currency}
use Rattle.terms.specs.declared.cycle.Cycle.{Cycle}
use Rattle.terms.specs.declared.file_kind.FileKind.{FileKind}
use Rattle.wire.specs.declared.values.RawHeader.{RawHeader}
use Rattle.memberfile.specs.declared.header.Header.{Header}

-- origin, file number and date are in range
abbrev pub ranged : RawHeader → Bool
ranged r = nat_le 1 r.origin && (nat_le r.origin 999 && (nat_le 1 r.number && (nat_le r.number 99 && is_day r.date)))

abbrev pub header_by : Option FileKind → Option Currency → Option Cycle → RawHeader → Option Header
header_by None c y r = None
header_by (Some k) None y r = None
header_by (Some k) (Some c) None r = None
header_by (Some k) (Some c) (Some y) r = cond (ranged r) (Some (record { kind = k; currency = c; cycle = y; origin = r.origin; date = r.date; number = r.number })) None

-- the header that the bytes say, if each of its values is in range
abbrev pub header_of : RawHeader → Option Header
header_of r = header_by (kind_of r.kind) (currency_of r.currency) (cycle_of r.cycle) r

-- the numbers that say a header
abbrev pub raw_of : Header → RawHeader
raw_of h = record { kind = kind_number h.kind; currency = currency_number h.currency; cycle = cycle_number h.cycle; origin = h.origin; date = h.date; number = h.number }

-- each value of a header is in its range
pub record InRange (r : RawHeader) : Type 0 where
  pub kind : (1 ≤ r.kind) × (r.kind ≤ 2)
  pub currency : (1 ≤ r.currency) × (r.currency ≤ 2)
  pub cycle : (1 ≤ r.cycle) × (r.cycle ≤ 3)
  pub origin : (1 ≤ r.origin) × (r.origin ≤ 999)
  pub date : is_day r.date ≡ true
  pub number : (1 ≤ r.number) × (r.number ≤ 99)
