-- Amounts as they are gathered, one for each place on the roll.
use Rattle.std.proofs.Common.{◌≡◌, ℕ, ◌≤◌, get_or, replicate, inl, inr, arith}
use lib.ListN.{get_or-replicate, length-replicate}
use Rattle.std.proofs.lemmas.List.{get_or_past}
use Rattle.std.proofs.lemmas.Bool.{cases_lt}

pub all_zero : (n m : ℕ) → ◌≡◌ {A = ℕ} (get_or (replicate n 0) m 0) 0
all_zero n m =
    elim (cases_lt m n) [
      | inl h ↦ get_or-replicate {A = ℕ} n m 0 0 h
      | inr h ↦ get_or_past {X = ℕ} (replicate n 0) m 0 (omega (arith, length-replicate {A = ℕ} n 0))
    ]

-- no amount is more than the one that fills all places
pub all_most : (n v m : ℕ) → get_or (replicate n v) m 0 ≤ v
all_most n v m =
    elim (cases_lt m n) [
      | inl h ↦ omega (arith, get_or-replicate {A = ℕ} n m v 0 h)
      | inr h ↦ omega (arith, get_or_past {X = ℕ} (replicate n v) m 0 (omega (arith, length-replicate {A = ℕ} n v)))
    ]
