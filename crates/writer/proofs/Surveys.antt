-- A survey of batches from the first to the last: what a turn tells of the batch it meets and of those behind it.
use Rattle.std.proofs.Common.{◌≡◌, ℕ, ◌+◌, ◌-◌, ◌<◌, ◌≤◌, Bool, true, false, cond, ◌&&◌, leb, List, map, length, get_or, drop, Some, None, sym, refl, ap, ◌∙◌, arith, le-ltb, lt-ltb, le-leb, leb-false, leb-true}
use borrow.Author.Tests.{lt-leb}
use Rattle.std.proofs.lemmas.List.{drop_all, drop_more}
use Rattle.writer.specs.Whole.{batch_of, rises_from}
use Rattle.writer.specs.declared.batch_rows.BatchRows.{BatchRows}

pub rises_on : (bs : List BatchRows) (i last : ℕ) (d : BatchRows) → i < length bs → last < (get_or bs i d).number → rises_from (get_or bs i d).number (map batch_of (drop (i + 1) bs)) ≡ rises_from last (map batch_of (drop i bs))
rises_on bs i last d h a = sym (ap (λ l. rises_from last (map batch_of l)) (drop_more bs i d h) ∙ ap (λ t. t && rises_from (get_or bs i d).number (map batch_of (drop (i + 1) bs))) (lt-ltb _ _ a))

pub rises_not : (bs : List BatchRows) (i last : ℕ) (d : BatchRows) → i < length bs → (get_or bs i d).number ≤ last → false ≡ rises_from last (map batch_of (drop i bs))
rises_not bs i last d h a = sym (ap (λ l. rises_from last (map batch_of l)) (drop_more bs i d h) ∙ ap (λ t. t && rises_from (get_or bs i d).number (map batch_of (drop (i + 1) bs))) (le-ltb _ _ a))

pub rises_end : (bs : List BatchRows) (i last : ℕ) → length bs ≤ i → true ≡ rises_from last (map batch_of (drop i bs))
rises_end bs i last h = sym (ap (λ l. rises_from last (map batch_of l)) (drop_all i bs h))

less_by : (k n room : ℕ) → k ≤ room → (t : Bool) → leb n (room - k) ≡ t → leb n (room - k) ≡ leb (k + n) room
less_by k n room h true e = let a = leb-true _ _ e in e ∙ sym (le-leb (k + n) room (omega arith))
less_by k n room h false e = let a = leb-false _ _ e in e ∙ sym (lt-leb (k + n) room (omega arith))

-- a test of a sum is the test of what is left
pub leb_less : (k n room : ℕ) → k ≤ room → leb n (room - k) ≡ leb (k + n) room
leb_less k n room h = less_by k n room h (leb n (room - k)) refl

some_by : (t : Bool) (n m : ℕ) → cond t (Some n) None ≡ Some m → (t ≡ true) × (m ≡ n)
some_by true n m e = (refl, cc)
some_by false n m e = let z : ◌≡◌ {A = ℕ} 0 1 = cc in absurd (omega arith)

none_by : (t : Bool) (n : ℕ) → cond t (Some n) None ≡ None → t ≡ false
none_by true n e = let z : ◌≡◌ {A = ℕ} 0 1 = cc in absurd (omega arith)
none_by false n e = refl
