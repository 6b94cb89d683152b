-- A sheet as it is added up, entry by entry.
use Rattle.std.proofs.Common.{◌≡◌, ℕ, ◌+◌, ◌≤◌, Bool, true, false, cond, not, ◌&&◌, List, length, sym, refl, ap, ◌∙◌, arith}
use Rattle.std.proofs.lemmas.Bool.{and_right}
use Rattle.clearing.specs.Balances.{raised}
use Rattle.clearing.specs.Sums.{dues, means}
use Rattle.clearing.specs.Choices.{Choice, entry_at, left_out, live, payer_of, receiver_of, size, up_to}
use Rattle.clearing.specs.Sheets.{SheetOf}
use Rattle.clearing.specs.declared.balances.Balance.{Balance}
use Rattle.clearing.specs.declared.entry.Entry.{Entry}
use Rattle.clearing.specs.declared.sheet.Sheet.{Sheet}
use Rattle.clearing.proofs.Sums.{cond_le, up_to_le, up_to_more, up_to_none}
use Rattle.clearing.proofs.Tallied.{Tallied, tallied_all, tallied_more, tallied_skip}

-- the entry at k counts as withdrawn, or not
abbrev one : List Entry → Choice → ℕ → ℕ
one es C k = cond (left_out es C k) 1 0

-- the first n entries are added up
pub record Added (es : List Entry) (C : Choice) (n : ℕ) (bs : List Balance) (withdrawn : ℕ) : Type 0 where
  pub paid : Tallied payer_of es C (λ m. 0) n (dues bs)
  pub received : Tallied receiver_of es C (λ m. 0) n (means bs)
  pub count : withdrawn ≡ up_to (one es C) n

pub count_none : (es : List Entry) (C : Choice) → 0 ≡ up_to (one es C) 0
count_none es C = sym (up_to_none (one es C))

module _ {es : List Entry} {C : Choice} {i : ℕ} {bs : List Balance} {withdrawn : ℕ} (a : Added es C i bs withdrawn) where
  pub withdrawn_low : withdrawn ≤ i
  withdrawn_low = omega (arith, a.count, up_to_le (one es C) 1 i (λ k. cond_le (left_out es C k) 1 1 (omega arith)))

  module _ {bs' : List Balance} {withdrawn' : ℕ} where
    -- a kept entry is paid by the one and received by the other
    pub added_kept : (e : Entry) → e ≡ entry_at es i → C i ≡ true → dues bs' ≡ raised (dues bs) e.payer e.worth → means bs' ≡ raised (means bs) e.receiver e.worth → withdrawn' ≡ withdrawn →
        Added es C (i + 1) bs' withdrawn'
    added_kept e here c p r w = record {
      paid = tallied_more a.paid e here c p;
      received = tallied_more a.received e here c r;
      count = omega (arith, w, a.count, up_to_more (one es C) i, ap {B = ℕ} (λ (b : Bool). cond b 1 0) (and_right (live es i) (not (C i)) (ap not c)));
    }

    -- any other entry is counted where it is live
    pub added_other : C i ≡ false → bs' ≡ bs → withdrawn' ≡ withdrawn + cond (live es i) 1 0 → Added es C (i + 1) bs' withdrawn'
    added_other c same w = record {
      paid = tallied_skip a.paid c (ap dues same);
      received = tallied_skip a.received c (ap means same);
      count = omega (arith, w, a.count, up_to_more (one es C) i, left (live es i) (C i) c);
    }
      where
        left : (l k : Bool) → k ≡ false → ◌≡◌ {A = ℕ} (cond (l && not k) 1 0) (cond l 1 0)
        left true k e = ap {B = ℕ} (λ (b : Bool). cond (not b) 1 0) e
        left false k e = refl

-- all entries are added up
pub added_all : {es : List Entry} {C : Choice} (s : Sheet) {n : ℕ} → Added es C n s.balances.by_member s.withdrawn → n ≡ length es → SheetOf es C s
unfolding size
added_all {es} {C} s a end = record {
  payments = λ m h. omega (arith, tallied_all a.paid end m h);
  receipts = λ m h. omega (arith, tallied_all a.received end m h);
  withdrawn = a.count ∙ ap (up_to (one es C)) end;
}
