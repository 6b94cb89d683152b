-- The heart of the matter: the last kept payment of a member that is short is in no lawful covered choice.
use Rattle.std.proofs.Common.{◌≡◌, ℕ, ◌+◌, ◌<◌, true, List, sym, ◌∙◌, subst, inl, inr, arith}
use Rattle.std.proofs.lemmas.Bool.{cases_eq, eqb-true}
use Rattle.rules.specs.Order.{Order}
use Rattle.clearing.specs.Choices.{entry_at, key_at, live, Choice, Within, is_on, payer_of, receiver_of, paid, received, Lawful, Covered}
use Rattle.clearing.specs.declared.entry.Entry.{Entry}
use Rattle.clearing.proofs.Sums.{total_mono}

-- r is the last of m's entries in K
pub record Last (ahead : Order) (es : List Entry) (K : Choice) (m r : ℕ) : Type 0 where
  pub chosen : K r ≡ true
  pub own : (entry_at es r).payer ≡ m
  pub others : (i : ℕ) → K i ≡ true → (entry_at es i).payer ≡ m → (i ≡ r → ⊥) → ahead (key_at es i) (key_at es r) ≡ true

-- A choice within K that held r would hold all of m's entries in K: it would pay as much, and receive no more.
pub never : (ahead : Order) (cover : ℕ → ℕ) (es : List Entry) (K : Choice) (m r : ℕ) → ((i : ℕ) → K i ≡ true → live es i ≡ true) → Last ahead es K m r → m < 64 →
    cover m + received es K m < paid es K m → (D : Choice) → Lawful ahead es D → Covered cover es D → Within D K → D r ≡ true → ⊥
never ahead cover es K m r alive last small short D law cov within has =
    omega (
      arith,
      cov.covered m small,
      total_mono (is_on receiver_of m) es D K (λ i d e. within i d),
      total_mono (is_on payer_of m) es K D (λ i k t.
          let e = eqb-true (entry_at es i).payer m t in
          elim (cases_eq i r) [
            | inl s ↦ subst (λ (j : ℕ). D j ≡ true) (sym s) has
            | inr ne ↦ law.closed r i has (alive i k) (e ∙ sym last.own) (last.others i k e ne)
          ]),
    )
