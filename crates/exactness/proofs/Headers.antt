-- Which header the numbers say, forth and back.
use Rattle.std.proofs.Common.{◌≡◌, ℕ, ◌/◌, ◌<◌, ◌≤◌, Bool, true, false, cond, ◌&&◌, Some, None, Option, sym, refl, ap, ◌∙◌, subst, arith, le-leb, leb-true}
use Rattle.std.proofs.lemmas.Bool.Decides.{nat_tests}
use Rattle.std.proofs.lemmas.Bool.{and_parts}
use Rattle.terms.specs.Dates.{is_day}
use Rattle.terms.specs.Numbers.{currency_number, currency_of, cycle_number, cycle_of, kind_number, kind_of}
use Rattle.terms.specs.declared.currency.Currency.{Currency}
use Rattle.terms.specs.declared.currency.Currency.TheVariants.{Soles, Dollars}
use Rattle.terms.specs.declared.cycle.Cycle.{Cycle}
use Rattle.terms.specs.declared.cycle.Cycle.TheVariants.{Morning, Intermediate, Afternoon}
use Rattle.terms.specs.declared.file_kind.FileKind.{FileKind}
use Rattle.terms.specs.declared.file_kind.FileKind.TheVariants.{Presentations, Returns}
use Rattle.wire.specs.declared.values.RawHeader.{RawHeader}
use Rattle.memberfile.specs.Headers.{InRange, header_by, header_of, ranged, raw_of}
use Rattle.memberfile.specs.Layout.{LawfulHeader}
use Rattle.memberfile.specs.declared.header.Header.{Header}

kind_is : (n : ℕ) (k : FileKind) → kind_of n ≡ Some k → n ≡ kind_number k
kind_is n k h = grind (arith, nat_tests)

currency_is : (n : ℕ) (k : Currency) → currency_of n ≡ Some k → n ≡ currency_number k
currency_is n k h = grind (arith, nat_tests)

cycle_is : (n : ℕ) (k : Cycle) → cycle_of n ≡ Some k → n ≡ cycle_number k
cycle_is n k h = grind (arith, nat_tests)

kind_out : (n : ℕ) → kind_of n ≡ None → 1 ≤ n → n ≤ 2 → ⊥
kind_out n h a b = grind (arith, nat_tests)

currency_out : (n : ℕ) → currency_of n ≡ None → 1 ≤ n → n ≤ 2 → ⊥
currency_out n h a b = grind (arith, nat_tests)

cycle_out : (n : ℕ) → cycle_of n ≡ None → 1 ≤ n → n ≤ 3 → ⊥
cycle_out n h a b = grind (arith, nat_tests)

kind_range : (k : FileKind) → (1 ≤ kind_number k) × (kind_number k ≤ 2)
kind_range Presentations = (omega arith, omega arith)
kind_range Returns = (omega arith, omega arith)

currency_range : (k : Currency) → (1 ≤ currency_number k) × (currency_number k ≤ 2)
currency_range Soles = (omega arith, omega arith)
currency_range Dollars = (omega arith, omega arith)

cycle_range : (k : Cycle) → (1 ≤ cycle_number k) × (cycle_number k ≤ 3)
cycle_range Morning = (omega arith, omega arith)
cycle_range Intermediate = (omega arith, omega arith)
cycle_range Afternoon = (omega arith, omega arith)

kind_back : (k : FileKind) → kind_of (kind_number k) ≡ Some k
kind_back Presentations = refl
kind_back Returns = refl

currency_back : (k : Currency) → currency_of (currency_number k) ≡ Some k
currency_back Soles = refl
currency_back Dollars = refl

cycle_back : (k : Cycle) → cycle_of (cycle_number k) ≡ Some k
cycle_back Morning = refl
cycle_back Intermediate = refl
cycle_back Afternoon = refl

-- what the range test says
pub record Ranges (r : RawHeader) : Type 0 where
  pub low : 1 ≤ r.origin
  pub high : r.origin ≤ 999
  pub least : 1 ≤ r.number
  pub most : r.number ≤ 99
  pub day : is_day r.date ≡ true

ranges : (r : RawHeader) → ranged r ≡ true → Ranges r
ranges r e =
    let a = and_parts _ _ e in
    let b = and_parts _ _ a.1 in
    let c = and_parts _ _ b.1 in
    let d = and_parts _ _ c.1 in
    record { low = leb-true _ _ a.0; high = leb-true _ _ b.0; least = leb-true _ _ c.0; most = leb-true _ _ d.0; day = d.1 }

in_ranges : (r : RawHeader) → Ranges r → ranged r ≡ true
in_ranges r w = λ i. le-leb _ _ w.low i && (le-leb _ _ w.high i && (le-leb _ _ w.least i && (le-leb _ _ w.most i && w.day i)))

day_small : (d : ℕ) → is_day d ≡ true → d < 4294967296
day_small d e =
    let b = and_parts _ _ (and_parts _ _ e).1 in
    let y : d / 10000 ≤ 2099 = leb-true _ _ b.0 in
    omega arith

-- a header in range fits its fields
pub fits_header : (h : Header) → LawfulHeader h → (h.origin < 65536) × (h.date < 4294967296)
fits_header h l = let w = ranges (raw_of h) l in (omega (arith, w.high), day_small h.date w.day)

-- the numbers of a header in range say that header
pub header_back : (h : Header) → LawfulHeader h → header_of (raw_of h) ≡ Some h
header_back h l = (λ i. header_by (kind_back h.kind i) (currency_back h.currency i) (cycle_back h.cycle i) (raw_of h)) ∙ ap (λ b. cond b (Some h) None) l

pub record Said (r : RawHeader) (h : Header) : Type 0 where
  pub raw : raw_of h ≡ r
  pub lawful : LawfulHeader h

said_by_lem : (r : RawHeader) (k : FileKind) (c : Currency) (y : Cycle) (h : Header) (b : Bool) → ranged r ≡ b → kind_of r.kind ≡ Some k → currency_of r.currency ≡ Some c → cycle_of r.cycle ≡ Some y → cond b (Some (record { kind = k; currency = c; cycle = y; origin = r.origin; date = r.date; number = r.number })) None ≡ Some h → Said r h
said_by_lem r k c y h false e p q o f = absurd (cc)
said_by_lem r k c y h true e p q o f =
    let is : record { kind = k; currency = c; cycle = y; origin = r.origin; date = r.date; number = r.number } ≡ h = cc in
    let same : raw_of (record { kind = k; currency = c; cycle = y; origin = r.origin; date = r.date; number = r.number }) ≡ r = λ i. record { kind = sym (kind_is r.kind k p) i; currency = sym (currency_is r.currency c q) i; cycle = sym (cycle_is r.cycle y o) i; origin = r.origin; date = r.date; number = r.number } in
    let raw : raw_of h ≡ r = ap raw_of (sym is) ∙ same in
    record { raw = raw; lawful = ap ranged raw ∙ e }

said_of : (r : RawHeader) (k : Option FileKind) (c : Option Currency) (y : Option Cycle) (h : Header) → kind_of r.kind ≡ k → currency_of r.currency ≡ c → cycle_of r.cycle ≡ y → header_by k c y r ≡ Some h → Said r h
said_of r None c y h p q o f = absurd (cc)
said_of r (Some k) None y h p q o f = absurd (cc)
said_of r (Some k) (Some c) None h p q o f = absurd (cc)
said_of r (Some k) (Some c) (Some y) h p q o f = said_by_lem r k c y h (ranged r) refl p q o f

-- a header that is said is in range, and its numbers are those that say it
pub header_said : (r : RawHeader) (h : Header) → header_of r ≡ Some h → Said r h
header_said r h e = said_of r (kind_of r.kind) (currency_of r.currency) (cycle_of r.cycle) h refl refl refl e

in_range_raw : (h : Header) → LawfulHeader h → InRange (raw_of h)
in_range_raw h l =
    let w = ranges (raw_of h) l in
    record { kind = kind_range h.kind; currency = currency_range h.currency; cycle = cycle_range h.cycle; origin = (w.low, w.high); date = w.day; number = (w.least, w.most) }

pub said_in_range : (r : RawHeader) (h : Header) → header_of r ≡ Some h → InRange r
said_in_range r h e = let w = header_said r h e in subst InRange w.raw (in_range_raw h w.lawful)

out_of : (r : RawHeader) (k : Option FileKind) (c : Option Currency) (y : Option Cycle) → kind_of r.kind ≡ k → currency_of r.currency ≡ c → cycle_of r.cycle ≡ y → header_by k c y r ≡ None → InRange r → ⊥
out_of r None c y p q o f w = kind_out r.kind p w.kind.0 w.kind.1
out_of r (Some k) None y p q o f w = currency_out r.currency q w.currency.0 w.currency.1
out_of r (Some k) (Some c) None p q o f w = cycle_out r.cycle o w.cycle.0 w.cycle.1
out_of r (Some k) (Some c) (Some y) p q o f w =
    let t : ranged r ≡ true = in_ranges r (record { low = w.origin.0; high = w.origin.1; least = w.number.0; most = w.number.1; day = w.date }) in
    let e = sym (ap (λ b. cond b (Some (record { kind = k; currency = c; cycle = y; origin = r.origin; date = r.date; number = r.number })) None) t) ∙ f in
    cc

-- where no header is said, some value is out of range
pub unsaid_out : (r : RawHeader) → header_of r ≡ None → InRange r → ⊥
unsaid_out r e w = out_of r (kind_of r.kind) (currency_of r.currency) (cycle_of r.cycle) refl refl refl e w
