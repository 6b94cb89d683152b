-- Covers as they are gathered, one for each place on the roll.
use Rattle.std.proofs.Common.{◌≡◌, ℕ, ◌<◌, ◌≤◌, min, ltb, List, length, get_or, arith, inl, inr, sym, ◌∙◌}
use Rattle.std.proofs.lemmas.Bool.{cases_lt, le-ltb, cond-false}
use Rattle.std.proofs.lemmas.List.{get_or_past}
use Rattle.clearing.specs.Table.{cover_on_roll}
use Rattle.clearing.proofs.Sums.{cond_le}

module _ (source : ℕ → ℕ) (roll amounts : List ℕ) (long : length amounts ≡ 64) (each : (k : ℕ) → k < 64 → get_or amounts k 0 ≡ cover_on_roll source roll k) where
  -- no member stands past the 64 places
  pub gathered : (m : ℕ) → get_or amounts m 0 ≡ cover_on_roll source roll m
  gathered m =
      elim (cases_lt m 64) [
        | inl h ↦ each m h
        | inr h ↦ get_or_past amounts m 0 (omega arith) ∙ sym (cond-false (ltb m (min (length roll) 64)) (source (get_or roll m 0)) 0 (le-ltb m (min (length roll) 64) (omega arith)))
      ]

  pub gathered_low : (most : ℕ) → ((code : ℕ) → source code ≤ most) → (m : ℕ) → get_or amounts m 0 ≤ most
  gathered_low most limited m = omega (arith, gathered m, cond_le (ltb m (min (length roll) 64)) (source (get_or roll m 0)) most (limited (get_or roll m 0)))
