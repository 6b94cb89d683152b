-- What one entry brings to a sum, and sums that are kept in an array with a place for each member.
use Rattle.std.proofs.Common.{◌≡◌, ℕ, ◌+◌, ◌-◌, ◌*◌, ◌<◌, ◌≤◌, Bool, true, false, cond, not, ◌&&◌, eqb, List, length, get_or, set, sym, refl, ap, ◌∙◌, inl, inr, arith}
use Rattle.std.proofs.lemmas.List.{get_or-set_same, get_or-set_other}
use Rattle.std.proofs.lemmas.Bool.{cases_eq, eq-eqb, ne_eqb, and_right}
use Rattle.clearing.specs.Balances.{Without}
use Rattle.clearing.specs.Choices.{up_to, entry_at, Choice, share, total, is_on, size}
use Rattle.clearing.specs.declared.entry.Entry.{Entry}
use Rattle.clearing.proofs.Sums.{up_to_more, up_to_le, up_to_drop, cond_le}

pub sum_le : (which : Entry → Bool) (es : List Entry) (C : Choice) (n : ℕ) → ((i : ℕ) → (entry_at es i).worth ≤ 100_000_000) → up_to (share which es C) n ≤ n * 100_000_000
sum_le which es C n worths =
    up_to_le (share which es C) 100_000_000 n (λ i. cond_le (C i && which (entry_at es i)) (entry_at es i).worth 100_000_000 (worths i))

pub share_out : (which : Entry → Bool) (es : List Entry) (C : Choice) (i : ℕ) → C i ≡ false → share which es C i ≡ 0
share_out which es C i c = simp c

module _ (side : Entry → ℕ) (es : List Entry) (C : Choice) where
  pub share_own : (i m : ℕ) → C i ≡ true → side (entry_at es i) ≡ m → share (is_on side m) es C i ≡ (entry_at es i).worth
  share_own i m c e = simp (c, eq-eqb (side (entry_at es i)) m e)

  pub share_other : (i m : ℕ) → (side (entry_at es i) ≡ m → ⊥) → share (is_on side m) es C i ≡ 0
  share_other i m ne = simp (ne_eqb (side (entry_at es i)) m ne) (out (C i) (entry_at es i).worth)
    where
      out : (b : Bool) (w : ℕ) → cond (b && false) w 0 ≡ 0
      out true w = refl
      out false w = refl

  -- an entry more, which is in the choice, or not
  pub tally_more : (xs : List ℕ) (i m b : ℕ) → length xs ≡ 64 → m < 64 → C i ≡ true → get_or xs m 0 ≡ b + up_to (share (is_on side m) es C) i →
      get_or (set xs (side (entry_at es i)) (get_or xs (side (entry_at es i)) 0 + (entry_at es i).worth)) m 0 ≡ b + up_to (share (is_on side m) es C) (i + 1)
  tally_more xs i m b long small c is =
      elim (cases_eq (side (entry_at es i)) m) [
        | inl e ↦ ap (λ (p : ℕ). get_or (set xs p (get_or xs p 0 + (entry_at es i).worth)) m 0) e ∙ get_or-set_same xs m _ 0 (omega arith)
            ∙ omega (arith, up_to_more (share (is_on side m) es C) i, share_own i m c e)
        | inr ne ↦ get_or-set_other xs (side (entry_at es i)) m _ 0 (λ e. ne (sym e)) ∙ omega (arith, is, up_to_more (share (is_on side m) es C) i, share_other i m ne)
      ]

  pub tally_skip : (xs : List ℕ) (i m b : ℕ) → C i ≡ false → get_or xs m 0 ≡ b + up_to (share (is_on side m) es C) i → get_or xs m 0 ≡ b + up_to (share (is_on side m) es C) (i + 1)
  tally_skip xs i m b c is = omega (arith, up_to_more (share (is_on side m) es C) i, share_out (is_on side m) es C i c)

pub size_without : (es : List Entry) (K K' : Choice) (r : ℕ) → r < length es → Without K K' r → size es K ≡ size es K' + 1
unfolding size
size_without es K K' r l w =
    up_to_drop (λ i. cond (K i) 1 0) (λ i. cond (K' i) 1 0) (length es) r l (ap (λ (b : Bool). cond b 1 0) w.out) (λ i ne. ap (λ (b : Bool). cond b 1 0) (w.others i ne))
    ∙ ap (λ (b : Bool). up_to (λ i. cond (K' i) 1 0) (length es) + cond b 1 0) w.was

module _ (side : Entry → ℕ) (es : List Entry) (K K' : Choice) (r : ℕ) (l : r < length es) (w : Without K K' r) where
  dropped : (m : ℕ) → total (is_on side m) es K ≡ total (is_on side m) es K' + share (is_on side m) es K r
  unfolding total
  dropped m =
      up_to_drop (share (is_on side m) es K) (share (is_on side m) es K') (length es) r l (share_out (is_on side m) es K' r w.out)
      (λ i ne. ap (λ (b : Bool). cond (b && eqb (side (entry_at es i)) m) (entry_at es i).worth 0) (w.others i ne))

  pub total_own : (m : ℕ) → side (entry_at es r) ≡ m → total (is_on side m) es K ≡ total (is_on side m) es K' + (entry_at es r).worth
  total_own m e = dropped m ∙ ap (λ (n : ℕ). total (is_on side m) es K' + n) (share_own side es K r m w.was e)

  pub total_other : (m : ℕ) → (side (entry_at es r) ≡ m → ⊥) → total (is_on side m) es K ≡ total (is_on side m) es K'
  total_other m ne = omega (arith, dropped m, share_other side es K r m ne)

  -- a sum kept in an array, with the entry's worth taken out
  pub tally_less : (xs : List ℕ) (m b : ℕ) → length xs ≡ 64 → m < 64 → get_or xs m 0 ≡ b + total (is_on side m) es K →
      get_or (set xs (side (entry_at es r)) (get_or xs (side (entry_at es r)) 0 - (entry_at es r).worth)) m 0 ≡ b + total (is_on side m) es K'
  tally_less xs m b long small is =
      elim (cases_eq (side (entry_at es r)) m) [
        | inl e ↦ ap (λ (p : ℕ). get_or (set xs p (get_or xs p 0 - (entry_at es r).worth)) m 0) e ∙ get_or-set_same xs m _ 0 (omega arith) ∙ omega (arith, is, total_own m e)
        | inr ne ↦ get_or-set_other xs (side (entry_at es r)) m _ 0 (λ e. ne (sym e)) ∙ omega (arith, is, total_other m ne)
      ]

-- an entry in a choice is worth no more than the sum that it is in
pub share_le : (side : Entry → ℕ) (es : List Entry) (K : Choice) (r : ℕ) → r < length es → K r ≡ true → (entry_at es r).worth ≤ total (is_on side (side (entry_at es r))) es K
share_le side es K r l k =
    let w : Without K (λ i. K i && not (eqb i r)) r = record {
      was = k;
      out = and_right (K r) (not (eqb r r)) (ap not (eq-eqb r r refl));
      others = λ i ne. ap (λ (b : Bool). K i && not b) (ne_eqb i r ne) ∙ with_true (K i);
    } in
    omega (arith, total_own side es K (λ i. K i && not (eqb i r)) r l w (side (entry_at es r)) refl)
  where
    with_true : (b : Bool) → (b && true) ≡ b
    with_true true = refl
    with_true false = refl
