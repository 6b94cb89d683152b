-- What a clearing keeps true as it withdraws entry after entry, and one step of it.
use Rattle.std.proofs.Common.{◌≡◌, ℕ, ◌+◌, ◌<◌, ◌≤◌, Bool, true, false, cond, not, ◌&&◌, eqb, List, length, get_or, sym, refl, ap, ◌∙◌, inl, inr, arith, length-set}
use Rattle.std.proofs.lemmas.Bool.{cases_eq, cases_lt, and_from, and_right, eqb-true, both_ways}
use Rattle.rules.specs.Order.{Order, Strict}
use Rattle.clearing.specs.Balances.{Balanced, LastOf, NoneOf, NoneShort, Without, lowered}
use Rattle.clearing.specs.Choices.{entry_at, key_at, live, Choice, Within, share, total, is_on, payer_of, receiver_of, size, left_out, Lawful, Covered, Greatest}
use Rattle.clearing.specs.declared.entry.Entry.{Entry}
use Rattle.clearing.proofs.Marks.{live_past}
use Rattle.clearing.proofs.Shares.{size_without, share_le, tally_less}
use Rattle.clearing.proofs.Step.{Last, never}
use Rattle.clearing.proofs.Sums.{up_to_some, size_none, total_same}

-- K is what is kept so far
pub record State (ahead : Order) (cover : ℕ → ℕ) (es : List Entry) (K : Choice) (due funds : List ℕ) (count : ℕ) : Type 0 where
  pub lawful : Lawful ahead es K
  pub above : (D : Choice) → Lawful ahead es D → Covered cover es D → Within D K
  pub balanced : Balanced cover es K due funds
  pub long_due : length due ≡ 64
  pub long_funds : length funds ≡ 64
  pub counted : count ≡ size es (left_out es K)

-- a member that pays has an entry that it pays
some_entry : (side : Entry → ℕ) (es : List Entry) (K : Choice) (m : ℕ) → 0 < total (is_on side m) es K → (i : ℕ) × (i < length es) × (K i ≡ true) × (side (entry_at es i) ≡ m)
unfolding total
some_entry side es K m h =
    let p = up_to_some (share (is_on side m) es K) (length es) h in
    let q = reads (K p.0) (eqb (side (entry_at es p.0)) m) (entry_at es p.0).worth p.2 in
    (p.0, p.1, q.0, eqb-true (side (entry_at es p.0)) m q.1)
  where
    reads : (x y : Bool) (w : ℕ) → 0 < cond (x && y) w 0 → (x ≡ true) × (y ≡ true)
    reads true true w h = (refl, refl)
    reads true false w h = absurd (omega arith)
    reads false y w h = absurd (omega arith)

module _ {ahead : Order} {cover : ℕ → ℕ} {es : List Entry} {K : Choice} {due funds : List ℕ} {count : ℕ} (s : State ahead cover es K due funds count)
    (m : ℕ) (small : m < 64) (short : get_or funds m 0 < get_or due m 0) where
  -- a member that is short has an entry
  pub has_some : NoneOf es K m (length es) → ⊥
  has_some none =
      let p = some_entry payer_of es K m (omega (arith, s.balanced.payments m small)) in
      none p.0 p.1 p.2 p.3

module _ {ahead : Order} (strict : Strict ahead) {cover : ℕ → ℕ} {es : List Entry} {K : Choice} {due funds : List ℕ} {count : ℕ} (s : State ahead cover es K due funds count)
    (m : ℕ) (small : m < 64) (short : get_or funds m 0 < get_or due m 0) (r : ℕ) (last : LastOf ahead es K m (length es) r) where
  in_table : (i : ℕ) → K i ≡ true → i < length es
  in_table i k =
      elim (cases_lt i (length es)) [
        | inl h ↦ h
        | inr h ↦ absurd (both_ways (live es i) (live_past es i h) (s.lawful.alive i k))
      ]

  is_last : Last ahead es K m r
  is_last = record { chosen = last.chosen; own = last.own; others = λ i k. last.others i (in_table i k) k }

  gone : (D : Choice) → Lawful ahead es D → Covered cover es D → D r ≡ true → ⊥
  gone D l v =
      never ahead cover es K m r s.lawful.alive is_last small
      (omega (arith, short, s.balanced.payments m small, s.balanced.means m small)) D l v (s.above D l v)

  pub worth_le : (side : Entry → ℕ) → (entry_at es r).worth ≤ total (is_on side (side (entry_at es r))) es K
  worth_le side = share_le side es K r last.within last.chosen

  module _ (K' : Choice) (w : Without K K' r) where
    next_lawful : Lawful ahead es K'
    next_lawful = record {
      alive = λ i c. elim (cases_eq i r) [
        | inl e ↦ absurd (both_ways (K' i) (ap K' e ∙ w.out) c)
        | inr ne ↦ s.lawful.alive i (sym (w.others i ne) ∙ c)
      ];
      closed = λ i j c v p o.
          let ne : (i ≡ r → ⊥) = λ e. both_ways (K' i) (ap K' e ∙ w.out) c in
          let ki : K i ≡ true = sym (w.others i ne) ∙ c in
          let kj : K j ≡ true = s.lawful.closed i j ki v p o in
          let nj : (j ≡ r → ⊥) = λ e. both_ways (ahead (key_at es r) (key_at es r)) (strict.irreflexive (key_at es r))
          (strict.transitive (key_at es r) (key_at es i) (key_at es r) (ap (λ (x : ℕ). ahead (key_at es x) (key_at es i)) (sym e) ∙ o)
          (is_last.others i ki (sym p ∙ ap (λ (x : ℕ). (entry_at es x).payer) e ∙ is_last.own) ne)) in
          w.others j nj ∙ kj;
    }

    one_more : Without (left_out es K') (left_out es K) r
    one_more = record {
      was = and_from (live es r) (not (K' r)) (s.lawful.alive r last.chosen) (ap not w.out);
      out = and_right (live es r) (not (K r)) (ap not last.chosen);
      others = λ i ne. ap (λ (b : Bool). live es i && not b) (sym (w.others i ne));
    }

    pub next : State ahead cover es K'
        (lowered due (entry_at es r).payer (entry_at es r).worth)
        (lowered funds (entry_at es r).receiver (entry_at es r).worth) (count + 1)
    next = record {
      lawful = next_lawful;
      above = λ D l v i d. elim (cases_eq i r) [
        | inl e ↦ absurd (gone D l v (ap D (sym e) ∙ d))
        | inr ne ↦ w.others i ne ∙ s.above D l v i d
      ];
      balanced = record {
        payments = λ k lt. omega (arith, tally_less payer_of es K K' r last.within w due k 0 s.long_due lt (omega (arith, s.balanced.payments k lt)));
        means = λ k lt. tally_less receiver_of es K K' r last.within w funds k (cover k) s.long_funds lt (s.balanced.means k lt);
      };
      long_due = length-set _ _ _ ∙ s.long_due;
      long_funds = length-set _ _ _ ∙ s.long_funds;
      counted = omega (arith, s.counted, size_without es (left_out es K') (left_out es K) r last.within one_more);
    }

    pub less : size es K' < size es K
    less = omega (arith, size_without es K K' r last.within w)

-- nobody is short
pub ended : {ahead : Order} {cover : ℕ → ℕ} {es : List Entry} {K : Choice} {due funds : List ℕ} {count : ℕ} → State ahead cover es K due funds count →
    NoneShort due funds → Greatest ahead cover es K
ended s h = record {
  lawful = s.lawful;
  enough = record { covered = λ m l. omega (arith, h m l, s.balanced.payments m l, s.balanced.means m l) };
  contains = s.above;
}

-- all live entries are kept
pub begun : (ahead : Order) (cover : ℕ → ℕ) (es : List Entry) (K : Choice) (due funds : List ℕ) → ((i : ℕ) → K i ≡ live es i) → Balanced cover es (live es) due funds →
    length due ≡ 64 → length funds ≡ 64 → State ahead cover es K due funds 0
begun ahead cover es K due funds all balanced long_due long_funds = record {
  lawful = record { alive = λ i c. sym (all i) ∙ c; closed = λ i j c v p o. all j ∙ v };
  above = λ D l v i d. all i ∙ l.alive i d;
  balanced = record {
    payments = λ m l. balanced.payments m l ∙ sym (total_same (is_on payer_of m) es K (live es) all);
    means = λ m l. balanced.means m l ∙ ap (λ (n : ℕ). cover m + n) (sym (total_same (is_on receiver_of m) es K (live es) all));
  };
  long_due = long_due;
  long_funds = long_funds;
  counted = sym (size_none es (left_out es K) (λ i. ap (λ (b : Bool). live es i && not b) (all i) ∙ never_both (live es i)));
}
  where
    never_both : (b : Bool) → (b && not b) ≡ false
    never_both true = refl
    never_both false = refl
