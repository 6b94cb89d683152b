-- The members of a docket: each has one place on the roll.
use Rattle.std.proofs.Common.{◌≡◌, ℕ, zero, suc, ◌<◌, false, eqb, length, get_or, Some, refl, ap, inl, inr, add-one, arith, length-take, get_or-take, eq-eqb, ne_eqb}
use Rattle.std.proofs.lemmas.Bool.{cases_lt}
use Rattle.terms.specs.Dockets.{roll_of}
use Rattle.terms.specs.Rolls.{place_in}
use Rattle.terms.specs.declared.docket.Docket.{Docket}
use Rattle.terms.proofs.Places.{place_first}

module _ (d : Docket) where
  -- of two members the later has the greater code
  later_greater : (i j : ℕ) → j < i → i < d.members → get_or d.codes j 0 < get_or d.codes i 0
  later_greater zero j h l = absurd (omega arith)
  later_greater (suc i) j h l =
      let up : get_or d.codes i 0 < get_or d.codes (suc i) 0 = omega (arith, d.rising i (omega arith), ap (λ k. get_or d.codes k 0) (add-one i)) in
      elim (cases_lt j i) [
        | inl k ↦ omega (arith, later_greater i j k (omega arith), up)
        | inr k ↦ let e : j ≡ i = omega arith in omega (arith, ap (λ k. get_or d.codes k 0) e, up)
      ]

  pub code_is : (i : ℕ) → i < length (roll_of d) → get_or (roll_of d) i 0 ≡ get_or d.codes i 0
  code_is i h = get_or-take d.members d.codes i 0 (omega (arith, length-take d.members d.codes))

  earlier_other : (i j : ℕ) → j < i → i < length (roll_of d) → eqb (get_or (roll_of d) j 0) (get_or (roll_of d) i 0) ≡ false
  earlier_other i j h l = ne_eqb _ _ (λ e. omega (arith, e, code_is i l, code_is j (omega arith), later_greater i j h (omega (arith, length-take d.members d.codes))))

  -- the place of the code at a place is that place
  pub place_of_code : (i : ℕ) → i < length (roll_of d) → place_in (roll_of d) (get_or (roll_of d) i 0) ≡ Some i
  place_of_code i l = place_first (λ c. eqb c (get_or (roll_of d) i 0)) i (roll_of d) 0 l (eq-eqb _ _ refl) (λ j h. earlier_other i j h l)
