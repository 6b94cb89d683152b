-- The last entry of a member, found place by place.
use Rattle.std.proofs.Common.{◌≡◌, ℕ, ◌+◌, ◌<◌, true, false, ◌&&◌, eqb, List, length, sym, ap, ◌∙◌, inl, inr, arith}
use Rattle.std.proofs.lemmas.Bool.{cases_eq, and_parts, and_from, eqb-true, eq-eqb, both_ways}
use Rattle.std.specs.Prelude.{Option, Some, None, MatchOption}
use Rattle.rules.specs.Order.{Order, Strict}
use Rattle.clearing.specs.Balances.{LastOf, NoneOf}
use Rattle.clearing.specs.Choices.{entry_at, key_at, Choice}
use Rattle.clearing.specs.declared.entry.Entry.{Entry}

module _ (es : List Entry) (C : Choice) (m i : ℕ) where
  -- an entry that is not m's, or not in the choice
  other : (C i && eqb (entry_at es i).payer m) ≡ false → (k : ℕ) → C k ≡ true → (entry_at es k).payer ≡ m → k ≡ i → ⊥
  other out k c e s =
      both_ways (C i && eqb (entry_at es i).payer m) out
      (and_from (C i) (eqb (entry_at es i).payer m) (ap C (sym s) ∙ c) (eq-eqb (entry_at es i).payer m (ap (λ (x : ℕ). (entry_at es x).payer) (sym s) ∙ e)))

  none_skip : (C i && eqb (entry_at es i).payer m) ≡ false → NoneOf es C m i → NoneOf es C m (i + 1)
  none_skip out l k h c e =
      elim (cases_eq k i) [
        | inl s ↦ other out k c e s
        | inr ne ↦ l k (omega arith) c e
      ]

  module _ (ahead : Order) where
    last_skip : (r : ℕ) → (C i && eqb (entry_at es i).payer m) ≡ false → LastOf ahead es C m i r → LastOf ahead es C m (i + 1) r
    last_skip r out l = record {
      within = l.within;
      chosen = l.chosen;
      own = l.own;
      others = λ k h c e. elim (cases_eq k i) [
        | inl s ↦ absurd (other out k c e s)
        | inr ne ↦ l.others k (omega arith) c e
      ];
    }

    pub skip : (C i && eqb (entry_at es i).payer m) ≡ false → (r : Option ℕ) → MatchOption r (NoneOf es C m i) (LastOf ahead es C m i) → MatchOption r (NoneOf es C m (i + 1)) (LastOf ahead es C m (i + 1))
    skip out None l = none_skip out l
    skip out (Some r) l = last_skip r out l

    module _ (within : i < length es) (is : (C i && eqb (entry_at es i).payer m) ≡ true) where
      taken : ((k : ℕ) → k < i → C k ≡ true → (entry_at es k).payer ≡ m → ahead (key_at es k) (key_at es i) ≡ true) → LastOf ahead es C m (i + 1) i
      taken behind =
          let p = and_parts (C i) (eqb (entry_at es i).payer m) is in
          record { within = within; chosen = p.0; own = eqb-true (entry_at es i).payer m p.1; others = λ k h c e ne. behind k (omega arith) c e }

      -- the first of m's
      pub first_take : NoneOf es C m i → LastOf ahead es C m (i + 1) i
      first_take l = taken (λ k h c e. absurd (l k h c e))

      -- it stands behind the last so far
      pub last_take : Strict ahead → (r : ℕ) → ahead (key_at es r) (key_at es i) ≡ true → LastOf ahead es C m i r → LastOf ahead es C m (i + 1) i
      last_take strict r b l =
          taken (λ k h c e. elim (cases_eq k r) [
            | inl s ↦ ap (λ (x : ℕ). ahead (key_at es x) (key_at es i)) s ∙ b
            | inr nr ↦ strict.transitive (key_at es k) (key_at es r) (key_at es i) (l.others k h c e nr) b
          ])

    -- it does not stand behind the last so far
    pub last_stay : Strict ahead → (r : ℕ) → ahead (key_at es r) (key_at es i) ≡ false → LastOf ahead es C m i r → LastOf ahead es C m (i + 1) r
    last_stay strict r before l = record {
      within = l.within;
      chosen = l.chosen;
      own = l.own;
      others = λ k h c e ne. elim (cases_eq k i) [
        | inl s ↦ elim (strict.total (key_at es k) (key_at es r) (λ x. ne (omega arith))) [
          | inl a ↦ a
          | inr a ↦ absurd (both_ways (ahead (key_at es r) (key_at es i)) before (ap (λ (x : ℕ). ahead (key_at es r) (key_at es x)) (sym s) ∙ a))
        ]
        | inr n ↦ l.others k (omega arith) c e ne
      ];
    }
