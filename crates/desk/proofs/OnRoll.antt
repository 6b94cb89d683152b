-- Every entry of a book is between two places on its roll.
use Rattle.std.proofs.Common.{◌≡◌, ℕ, zero, suc, ◌<◌, Bool, true, false, cond, not, ◌||◌, eqb, List, [], ◌∷◌, ◌++◌, length, is_some, Some, None, Ok, Err, fold, Option, Result, unwrap_or, refl, ◌∙◌, subst, arith}
use Rattle.terms.specs.Dockets.{Day}
use Rattle.terms.specs.Rolls.{place_in}
use Rattle.terms.specs.declared.fault.Fault.{Fault}
use Rattle.terms.specs.declared.refusal.Refusal.{Refusal}
use Rattle.terms.proofs.Places.{place_found}
use Rattle.rules.specs.Meaning.{Meaning}
use Rattle.wire.specs.declared.row.Row.{Row}
use Rattle.wire.specs.declared.row.Row.TheVariants.{Presentation, Return}
use Rattle.wire.specs.declared.values.Presentation.{Presentation as PresentationV}
use Rattle.memberfile.specs.Judge.{Verdict, judge, summary_of}
use Rattle.memberfile.specs.Layout.{FileValue, all_rows}
use Rattle.clearing.specs.Choices.{entry_at}
use Rattle.clearing.specs.declared.entry.Entry.{Entry}
use Rattle.table.specs.Entries.{struck}
use Rattle.session.specs.Files.{admitted, file_refusal, file_rules, sender_of, verdict, verdict_by}
use Rattle.session.specs.Ledger.{Ledger, place_on}
use Rattle.session.specs.Refusals.{unless}
use Rattle.session.specs.Rows.{after_row, after_rows, entries_by, entry_for, presentation_refusal, presentation_rules, presentation_taken, put_in, return_taken, struck_in}
use Rattle.session.specs.Senders.{SenderValue}
use Rattle.session.proofs.Orders.{passed, unless_ok}
use Rattle.desk.specs.Books.{Book, Meant, after, after_sent, clears, sends}

-- payer and receiver of each entry are among the first n places
abbrev pub AllOn : ℕ → List Entry → Type 0
AllOn n [] = Unit {0}
AllOn n (e ∷ es) = (e.payer < n) × (e.receiver < n) × AllOn n es

pub on_at : (n : ℕ) (es : List Entry) (i : ℕ) → AllOn n es → i < length es → ((entry_at es i).payer < n) × ((entry_at es i).receiver < n)
on_at n [] i a l = absurd (omega arith)
on_at n (e ∷ es) zero a l = (a.0, a.1)
on_at n (e ∷ es) (suc i) a l = on_at n es i a.2 (omega arith)

on_push : (n : ℕ) (es : List Entry) (e : Entry) → AllOn n es → e.payer < n → e.receiver < n → AllOn n (es ++ (e ∷ []))
on_push n [] e a p r = (p, r, tt)
on_push n (x ∷ es) e a p r = (a.0, a.1, on_push n es e a.2 p r)

on_struck : (n : ℕ) (es : List Entry) (i : ℕ) → AllOn n es → AllOn n (struck es i)
on_struck n [] i a = tt
on_struck n (e ∷ es) zero a = (a.0, a.1, a.2)
on_struck n (e ∷ es) (suc i) a = (a.0, a.1, on_struck n es i a.2)

-- a member on the roll has a place there
place_by : (roll : List ℕ) (code : ℕ) (o : Option ℕ) → place_in roll code ≡ o → is_some o ≡ true → unwrap_or o 0 < length roll
place_by roll code None e h = absurd (let z : ◌≡◌ {A = ℕ} 0 1 = cc in omega arith)
place_by roll code (Some i) e h = (place_found (λ c. eqb c code) roll i e 0).0

member_place : (roll : List ℕ) (code : ℕ) → is_some (place_in roll code) ≡ true → place_on roll code < length roll
member_place roll code h = place_by roll code (place_in roll code) refl h

not_off : (b : Bool) → not b ≡ false → b ≡ true
not_off true e = refl
not_off false e = absurd (let z : ◌≡◌ {A = ℕ} 0 1 = cc in omega arith)

not_either : (a b : Bool) → (not a || b) ≡ false → a ≡ true
not_either true b e = refl
not_either false b e = absurd (let z : ◌≡◌ {A = ℕ} 0 1 = cc in omega arith)

unless_none : {X : Type 0} (o : Option Refusal) (x y : X) → unless o x ≡ Ok y → o ≡ None
unless_none None x y e = refl
unless_none (Some c) x y e = let z : ◌≡◌ {A = ℕ} 0 1 = cc in absurd (omega arith)

pick_on : (n : ℕ) (b : Bool) (x y : ℕ) → x < n → y < n → cond b x y < n
pick_on n true x y h k = h
pick_on n false x y h k = k

module _ (day : Day) (m : Meaning) (s : SenderValue) (from : s.place < length day.roll) where
  on_put : (es : List Entry) (p : PresentationV) (r : Result Entry Refusal) → presentation_taken day m s es p ≡ r → AllOn (length day.roll) es → AllOn (length day.roll) (entries_by es (put_in es r))
  on_put es p (Err c) e a = a
  on_put es p (Ok x) e a =
      let none = unless_none (presentation_refusal day m s es p) (entry_for day m s p) x e in
      let to : place_on day.roll p.other < length day.roll = member_place day.roll p.other (not_either _ _ (passed (presentation_rules day m s es p) none).0) in
      let is : entry_for day m s p ≡ x = unless_ok (presentation_refusal day m s es p) (entry_for day m s p) x e in
      subst (λ (y : Entry). AllOn (length day.roll) (es ++ (y ∷ []))) is (on_push (length day.roll) es (entry_for day m s p) a (pick_on _ m.origin_pays _ _ from to) (pick_on _ m.origin_pays _ _ to from))

  on_return : (es : List Entry) (r : Result ℕ Refusal) → AllOn (length day.roll) es → AllOn (length day.roll) (entries_by es (struck_in es r))
  on_return es (Err c) a = a
  on_return es (Ok i) a = on_struck (length day.roll) es i a

  on_row : (es : List Entry) (r : Row) → AllOn (length day.roll) es → AllOn (length day.roll) (after_row day m s es r)
  on_row es (Presentation p) a = on_put es p (presentation_taken day m s es p) refl a
  on_row es (Return r) a = on_return es (return_taken s es r) a

  on_rows : (es : List Entry) (rs : List Row) → AllOn (length day.roll) es → AllOn (length day.roll) (after_rows day m s es rs)
  on_rows es [] a = a
  on_rows es (r ∷ rs) a = on_rows (after_row day m s es r) rs (on_row es r a)

admitted_none : (o : Option Refusal) (g f : FileValue) → admitted o g ≡ Ok f → (o ≡ None) × (g ≡ f)
admitted_none None g f e = (refl, cc)
admitted_none (Some c) g f e = let z : ◌≡◌ {A = ℕ} 0 1 = cc in absurd (omega arith)

verdict_by_lem : (l : Ledger) (m : Meaning) (room : ℕ) (v : Verdict) (f : FileValue) → verdict_by l m room v ≡ Ok f → file_refusal l m (summary_of f) room ≡ None
verdict_by_lem l m room (Ok g) f e = let p = admitted_none (file_refusal l m (summary_of g) room) g f e in subst (λ (x : FileValue). file_refusal l m (summary_of x) room ≡ None) p.1 p.0
verdict_by_lem l m room (Err x) f e = let z : ◌≡◌ {A = ℕ} 0 1 = cc in absurd (omega arith)

-- the sender of an accepted file is on the roll
sender_on : (l : Ledger) (m : Meaning) (bytes : List ℕ) (room : ℕ) (f : FileValue) → verdict l m bytes room ≡ Ok f → (sender_of l f.header).place < length l.day.roll
sender_on l m bytes room f e = member_place l.day.roll f.header.origin (not_off _ (passed (file_rules l m (summary_of f) room) (verdict_by_lem l m room (judge bytes) f e)).1.0)

abbrev pub OnRoll : Book → Type 0
OnRoll b = AllOn (length b.ledger.day.roll) b.ledger.entries

on_sent : (b : Book) (m : Meaning) (bytes : List ℕ) (room : ℕ) (v : Result FileValue Fault) → verdict b.ledger m bytes room ≡ v → OnRoll b → OnRoll (after_sent b m v)
on_sent b m bytes room (Ok f) e a = on_rows b.ledger.day m (sender_of b.ledger f.header) (sender_on b.ledger m bytes room f e) b.ledger.entries (all_rows f.batches) a
on_sent b m bytes room (Err x) e a = a

on_after : (b : Book) (k : Meant) → OnRoll b → OnRoll (after b k)
on_after b (sends m bytes room) a = on_sent b m bytes room (verdict b.ledger m bytes room) refl a
on_after b (clears ahead cover) a = a

day_sent : (b : Book) (m : Meaning) (v : Result FileValue Fault) → (after_sent b m v).ledger.day ≡ b.ledger.day
day_sent b m (Ok f) = refl
day_sent b m (Err x) = refl

day_after : (b : Book) (k : Meant) → (after b k).ledger.day ≡ b.ledger.day
day_after b (sends m bytes room) = day_sent b m (verdict b.ledger m bytes room)
day_after b (clears ahead cover) = refl

pub on_run : (b : Book) (h : List Meant) → OnRoll b → OnRoll (fold after b h)
on_run b [] a = a
on_run b (k ∷ h) a = on_run (after b k) h (on_after b k a)

pub day_run : (b : Book) (h : List Meant) → (fold after b h).ledger.day ≡ b.ledger.day
day_run b [] = refl
day_run b (k ∷ h) = day_run (after b k) h ∙ day_after b k
