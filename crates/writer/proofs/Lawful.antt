-- A header is taken by the reader exactly when its values are in range.
use Rattle.std.proofs.Common.{◌≡◌, Bool, true, false, cond, is_some, Some, None, Option, refl, ◌∙◌}
use Rattle.std.specs.Prelude.{is_ok, ok_or}
use Rattle.terms.specs.declared.refusal.Refusal.TheVariants.{HeaderValue}
use Rattle.terms.specs.Numbers.{currency_number, currency_of, cycle_number, cycle_of, kind_number, kind_of}
use Rattle.terms.specs.declared.currency.Currency.{Currency}
use Rattle.terms.specs.declared.currency.Currency.TheVariants.{Soles, Dollars}
use Rattle.terms.specs.declared.cycle.Cycle.{Cycle}
use Rattle.terms.specs.declared.cycle.Cycle.TheVariants.{Morning, Intermediate, Afternoon}
use Rattle.terms.specs.declared.file_kind.FileKind.{FileKind}
use Rattle.terms.specs.declared.file_kind.FileKind.TheVariants.{Presentations, Returns}
use Rattle.wire.specs.declared.values.RawHeader.{RawHeader}
use Rattle.memberfile.specs.Headers.{header_by, header_of, ranged, raw_of}
use Rattle.memberfile.specs.declared.header.Header.{Header}

kind_back : (k : FileKind) → kind_of (kind_number k) ≡ Some k
kind_back Presentations = refl
kind_back Returns = refl

currency_back : (c : Currency) → currency_of (currency_number c) ≡ Some c
currency_back Soles = refl
currency_back Dollars = refl

cycle_back : (y : Cycle) → cycle_of (cycle_number y) ≡ Some y
cycle_back Morning = refl
cycle_back Intermediate = refl
cycle_back Afternoon = refl

some_cond : (b : Bool) (h : Header) → is_some (cond b (Some h) None) ≡ b
some_cond true h = refl
some_cond false h = refl

by_ranges : (a : Option FileKind) (b : Option Currency) (d : Option Cycle) (k : FileKind) (c : Currency) (y : Cycle) (r : RawHeader) → a ≡ Some k → b ≡ Some c → d ≡ Some y → is_some (header_by a b d r) ≡ ranged r
by_ranges a b d k c y r p q s = rw (p, q, s) (some_cond (ranged r) _)

taken_in_range : (h : Header) → is_some (header_of (raw_of h)) ≡ ranged (raw_of h)
taken_in_range h = by_ranges _ _ _ h.kind h.currency h.cycle (raw_of h) (kind_back h.kind) (currency_back h.currency) (cycle_back h.cycle)

ok_some : (o : Option Header) → is_ok (ok_or o HeaderValue) ≡ is_some o
ok_some (Some h) = refl
ok_some None = refl

-- the reader takes a header exactly where it is in range
pub header_taken : (h : Header) → is_ok (ok_or (header_of (raw_of h)) HeaderValue) ≡ ranged (raw_of h)
header_taken h = ok_some (header_of (raw_of h)) ∙ taken_in_range h
