-- One more report in a list: where it is written, and what the list says afterwards.
use Rattle.std.proofs.Common.{◌≡◌, ℕ, zero, suc, ◌+◌, ◌<◌, ◌≤◌, max, true, false, cond, ◌||◌, eqb, ltb, List, [], ◌∷◌, length, take, set, Some, None, Option, refl, ap, inl, inr, arith}
use Rattle.std.proofs.lemmas.Bool.{cases_eq, cases_lt, eq-eqb, lt-ltb, ne_eqb}
use Rattle.std.proofs.lemmas.List.{length-take-le}
use Rattle.std.proofs.lemmas.Bool.Decides.{nat_tests}
use Rattle.std.specs.Option.{MatchOption, unwrap_or}
use Rattle.rules.specs.Reports.{FirstFor, Misses, Reported, amount_at, amount_of, are_apart, code_at, has_room, holds}
use Rattle.rules.specs.declared.book.Report.{Report}

-- the list with the report in place of the one for its code, or behind all
abbrev pub entered : Report → List Report → List Report
entered r [] = r ∷ []
entered r (x ∷ xs) = cond (eqb x.code r.code) (r ∷ xs) (x ∷ entered r xs)

misses_rest : (code : ℕ) (x : Report) (xs : List Report) (i : ℕ) → Misses code (x ∷ xs) (suc i) → Misses code xs i
misses_rest code x xs i m k l = m (suc k) (omega arith)

-- a code that stands at a place in use is held
found : (xs : List Report) (i n code : ℕ) → i < n → n ≤ length xs → code_at xs i ≡ code → holds code (take n xs) ≡ true
found [] i n code l h e = absurd (omega arith)
found (x ∷ xs) i zero code l h e = absurd (omega arith)
found (x ∷ xs) zero (suc n) code l h e = rw (eq-eqb x.code code e)
found (x ∷ xs) (suc i) (suc n) code l h e = let t = found xs i n code (omega arith) (omega arith) e in grind (arith, nat_tests)

-- a code that stands at none is not
missed : (xs : List Report) (n code : ℕ) → Misses code xs n → n ≤ length xs → holds code (take n xs) ≡ false
missed xs zero code m h = refl
missed [] (suc n) code m h = refl
missed (x ∷ xs) (suc n) code m h =
    rw (ne_eqb x.code code (m 0 (omega arith))) (missed xs n code (misses_rest code x xs n m) (omega arith))

-- the amount at the place where a search for the code ended
pub amount_found : (xs : List Report) (i n code : ℕ) → i < n → n ≤ length xs → Misses code xs i → code_at xs i ≡ code → amount_at xs i ≡ amount_of code (take n xs)
amount_found [] i n code l h m e = absurd (omega arith)
amount_found (x ∷ xs) i zero code l h m e = absurd (omega arith)
amount_found (x ∷ xs) zero (suc n) code l h m e = rw (eq-eqb x.code code e)
amount_found (x ∷ xs) (suc i) (suc n) code l h m e =
    rw (ne_eqb x.code code (m 0 (omega arith)))
    (amount_found xs i n code (omega arith) (omega arith) (misses_rest code x xs i m) e)

-- where no place in use is for the code there is none
pub amount_missed : (xs : List Report) (n code : ℕ) → Misses code xs n → n ≤ length xs → 0 ≡ amount_of code (take n xs)
amount_missed xs zero code m h = refl
amount_missed [] (suc n) code m h = refl
amount_missed (x ∷ xs) (suc n) code m h =
    rw (ne_eqb x.code code (m 0 (omega arith))) (amount_missed xs n code (misses_rest code x xs n m) (omega arith))

-- there is room exactly where the search ended before the last place
room : (xs : List Report) (i n code : ℕ) → length xs ≡ 64 → i ≤ n → n ≤ 64 → Misses code xs i → (i < n → code_at xs i ≡ code) → has_room code (take n xs) ≡ ltb i 64
room xs i n code e a b m f =
    elim (cases_lt i n) [
      | inl l ↦ let h = found xs i n code l (omega arith) (f l) in let t = lt-ltb i 64 (omega arith) in grind (arith, nat_tests)
      | inr l ↦
          let s : i ≡ n = omega arith in
          let h = missed xs n code (rw s at m) (omega arith) in
          let t = length-take-le n xs (omega arith) in
          grind (arith, nat_tests)
    ]

-- written over the one for its code
replaced : (xs : List Report) (i n : ℕ) (r : Report) → i < n → n ≤ length xs → Misses r.code xs i → code_at xs i ≡ r.code → take n (set xs i r) ≡ entered r (take n xs)
replaced [] i n r l h m e = absurd (omega arith)
replaced (x ∷ xs) i zero r l h m e = absurd (omega arith)
replaced (x ∷ xs) zero (suc n) r l h m e = rw (eq-eqb x.code r.code e)
replaced (x ∷ xs) (suc i) (suc n) r l h m e =
    rw (ne_eqb x.code r.code (m 0 (omega arith)))
    (ap {B = List Report} (λ t. x ∷ t) (replaced xs i n r (omega arith) (omega arith) (misses_rest r.code x xs i m) e))

-- written behind all
appended : (xs : List Report) (n : ℕ) (r : Report) → n < length xs → Misses r.code xs n → take (suc n) (set xs n r) ≡ entered r (take n xs)
appended [] n r h m = absurd (omega arith)
appended (x ∷ xs) zero r h m = refl
appended (x ∷ xs) (suc n) r h m =
    rw (ne_eqb x.code r.code (m 0 (omega arith)))
    (ap {B = List Report} (λ t. x ∷ t) (appended xs n r (omega arith) (misses_rest r.code x xs n m)))

-- written at the place where a search for its code ended, m reports are held
written : (xs : List Report) (i n m : ℕ) (r : Report) → i ≤ n → i < length xs → n ≤ length xs → Misses r.code xs i → (i < n → code_at xs i ≡ r.code) → m ≡ max n (i + 1) → take m (set xs i r) ≡ entered r (take n xs)
written xs i n m r a b h before at e =
    elim (cases_lt i n) [
      | inl l ↦ let t : m ≡ n = omega arith in rw t (replaced xs i n r l h before (at l))
      | inr l ↦
          let t : m ≡ suc n = omega arith in
          let s : i ≡ n = omega arith in
          rw (t, s) (appended xs n r (omega arith) (rw s at before))
    ]

-- A report goes over the first for its code, or behind all in use: `o` is the place of the first, `at` where the report goes, and m reports are held then.
pub record EntersAt (xs : List Report) (n at : ℕ) (r : Report) : Type 0 where
  pub room : has_room r.code (take n xs) ≡ ltb at 64
  pub taken : (m : ℕ) → at < 64 → m ≡ max n (at + 1) → take m (set xs at r) ≡ entered r (take n xs)

pub enters_at : (o : Option ℕ) (xs : List Report) (n : ℕ) (r : Report) → length xs ≡ 64 → n ≤ 64 → MatchOption o (Misses r.code xs n) (λ at. FirstFor r.code xs n at) → EntersAt xs n (unwrap_or o n) r
enters_at (Some at) xs n r e h f = record {
  room = room xs at n r.code e (omega (arith, f.within)) h f.before (λ _. f.found);
  taken = λ m l k. written xs at n m r (omega (arith, f.within)) (omega arith) (omega arith) f.before (λ _. f.found) k;
}
enters_at None xs n r e h f = record {
  room = room xs n n r.code e (omega arith) h f (λ l. absurd (omega arith));
  taken = λ m l k. written xs n n m r (omega arith) (omega arith) (omega arith) f (λ l. absurd (omega arith)) k;
}

-- what the list says after the report: of its code, of the others, of who is held, and of how many
own : (r : Report) (xs : List Report) → amount_of r.code (entered r xs) ≡ r.amount
own r [] = grind (arith, nat_tests)
own r (x ∷ xs) = let h = own r xs in grind (arith, nat_tests)

others : (r : Report) (xs : List Report) (other : ℕ) → (other ≡ r.code → ⊥) → amount_of other (entered r xs) ≡ amount_of other xs
others r [] other ne = grind (arith, nat_tests)
others r (x ∷ xs) other ne = let h = others r xs other ne in grind (arith, nat_tests)

codes : (r : Report) (xs : List Report) (other : ℕ) → holds other (entered r xs) ≡ (eqb r.code other || holds other xs)
codes r [] other = refl
codes r (x ∷ xs) other = let h = codes r xs other in grind (arith, nat_tests)

count : (r : Report) (xs : List Report) → length (entered r xs) ≡ cond (holds r.code xs) (length xs) (length xs + 1)
count r [] = refl
count r (x ∷ xs) = let h = count r xs in grind (arith, nat_tests)

pub entered_reported : (r : Report) (xs : List Report) → Reported r.code r.amount xs (entered r xs)
entered_reported r xs = record { own = own r xs; others = others r xs; codes = codes r xs; count = count r xs }

-- the codes stay different
pub entered_apart : (r : Report) (xs : List Report) → are_apart xs ≡ true → are_apart (entered r xs) ≡ true
entered_apart r [] h = refl
entered_apart r (x ∷ xs) h = let c = codes r xs x.code in let i = entered_apart r xs in grind (arith, nat_tests)

-- no amount passes the limit of those before and of the new one
pub entered_limited : (r : Report) (xs : List Report) (limit : ℕ) → r.amount ≤ limit → ((code : ℕ) → amount_of code xs ≤ limit) → (code : ℕ) → amount_of code (entered r xs) ≤ limit
entered_limited r xs limit a h code =
    elim (cases_eq code r.code) [
      | inl e ↦ rw e (omega (arith, own r xs))
      | inr ne ↦ omega (arith, others r xs code ne, h code)
    ]
