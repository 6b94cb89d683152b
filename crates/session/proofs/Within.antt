-- Entries that are taken in are within the limits of the house.
use Rattle.std.proofs.Common.{◌≡◌, ℕ, ◌<◌, ◌≤◌, Bool, true, false, cond, ◌&&◌, List, Some, None, Ok, Err, Option, Result, unwrap_or, refl, subst, arith, lt-ltb, le-leb}
use Rattle.terms.specs.Dockets.{day_of, roll_of}
use Rattle.terms.specs.Rolls.{place_in}
use Rattle.terms.specs.declared.docket.Docket.{Docket}
use Rattle.rules.specs.Meaning.{Limited, Meaning}
use Rattle.rules.specs.declared.instrument.Denial.{Denial}
use Rattle.clearing.specs.declared.entry.Entry.{Entry}
use Rattle.table.specs.Entries.{is_within}
use Rattle.wire.specs.declared.values.Presentation.{Presentation as PresentationV}
use Rattle.session.specs.Ledger.{place_on}
use Rattle.session.specs.Rows.{admission, entry_for, presentation_refusal, presentation_taken, worth_in}
use Rattle.session.specs.Senders.{SenderValue}
use Rattle.session.proofs.Orders.{unless_ok}
use Rattle.session.proofs.Rolls.{place_low}

place_by : (d : Docket) (code : ℕ) (o : Option ℕ) → place_in (roll_of d) code ≡ o → unwrap_or o 0 < 64
place_by d code None e = omega arith
place_by d code (Some i) e = place_low d code i e

pub place_on_low : (d : Docket) (code : ℕ) → place_on (roll_of d) code < 64
place_on_low d code = place_by d code (place_in (roll_of d) code) refl

worth_by : (m : Meaning) → Limited m → (d : Docket) (p : PresentationV) (r : Result ℕ Denial) → admission (day_of d) m p ≡ r → worth_in r ≤ 100000000
worth_by m law d p (Ok w) e = law p.record_type d.currency p.amount p.commission w e
worth_by m law d p (Err x) e = omega arith

pick_low : (b : Bool) (x y : ℕ) → x < 64 → y < 64 → cond b x y < 64
pick_low true x y h k = h
pick_low false x y h k = k

for_within : (d : Docket) (m : Meaning) → Limited m → (s : SenderValue) → s.place < 64 → (p : PresentationV) → is_within (entry_for (day_of d) m s p) ≡ true
for_within d m law s low p =
    let other = place_on_low d p.other in
    λ i. lt-ltb _ 64 (pick_low m.origin_pays _ _ low other) i && (lt-ltb _ 64 (pick_low m.origin_pays _ _ other low) i && le-leb _ 100000000 (worth_by m law d p (admission (day_of d) m p) refl) i)

-- an entry that is taken is within the limits
pub taken_within : (d : Docket) (m : Meaning) → Limited m → (s : SenderValue) → s.place < 64 → (es : List Entry) (p : PresentationV) (e : Entry) → presentation_taken (day_of d) m s es p ≡ Ok e → is_within e ≡ true
taken_within d m law s low es p e h = subst (λ x. is_within x ≡ true) (unless_ok (presentation_refusal (day_of d) m s es p) (entry_for (day_of d) m s p) e h) (for_within d m law s low p)
