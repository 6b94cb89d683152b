-- The first place at which something holds, element by element.
use Rattle.std.proofs.Common.{◌≡◌, ℕ, zero, suc, ◌+◌, ◌<◌, ◌≤◌, Bool, true, false, not, cond, ltb, List, [], ◌∷◌, length, get_or, drop, Some, None, Option, sym, refl, ap, ◌∙◌, add-one, arith, drop_of_length-le, drop-cons}
use Rattle.std.specs.List.{position_or_len}
use Rattle.terms.specs.Rolls.{first_place, one_on}

-- a place behind n others
abbrev pub behind : ℕ → Option ℕ → Option ℕ
behind n None = None
behind n (Some i) = Some (n + i)

behind_zero : (o : Option ℕ) → behind 0 o ≡ o
behind_zero None = refl
behind_zero (Some i) = ap Some (omega arith)

behind_one : (n : ℕ) (o : Option ℕ) → behind n (one_on o) ≡ behind (n + 1) o
behind_one n None = refl
behind_one n (Some i) = ap Some (omega arith)

one_on_lem : (o : Option ℕ) (i : ℕ) → one_on o ≡ Some i → (j : ℕ) × (o ≡ Some j) × (suc j ≡ i)
one_on_lem None i e = let z : ◌≡◌ {A = ℕ} 0 1 = cc in absurd (omega arith)
one_on_lem (Some j) i e = (j, refl, cc)

module _ {A : Type 0} (P : A → Bool) where
  pub place_start : (xs : List A) → first_place P xs ≡ behind 0 (first_place P (drop 0 xs))
  place_start xs = sym (behind_zero (first_place P xs))

  pub place_on_lem : (i : ℕ) (xs : List A) (d : A) → i < length xs → P (get_or xs i d) ≡ false → behind i (first_place P (drop i xs)) ≡ behind (i + 1) (first_place P (drop (i + 1) xs))
  place_on_lem i xs d h n = ap (λ x. behind i (first_place P x)) (drop-cons xs i d h) ∙ ap (λ b. behind i (cond b (Some 0) (one_on (first_place P (drop (suc i) xs))))) n ∙ behind_one i (first_place P (drop (suc i) xs)) ∙ ap (λ k. behind (i + 1) (first_place P (drop k xs))) (sym (add-one i))

  pub place_here : (i : ℕ) (xs : List A) (d : A) → i < length xs → P (get_or xs i d) ≡ true → behind i (first_place P (drop i xs)) ≡ Some i
  place_here i xs d h e = ap (λ x. behind i (first_place P x)) (drop-cons xs i d h) ∙ ap (λ b. behind i (cond b (Some 0) (one_on (first_place P (drop (suc i) xs))))) e ∙ ap Some (omega arith)

  pub place_none : (i : ℕ) (xs : List A) → length xs ≤ i → behind i (first_place P (drop i xs)) ≡ None
  place_none i xs h = ap (λ x. behind i (first_place P x)) (drop_of_length-le xs h)

  found_by : (b : Bool) (x : A) (xs : List A) (i : ℕ) → P x ≡ b → cond b (Some 0) (one_on (first_place P xs)) ≡ Some i → ((j : ℕ) → first_place P xs ≡ Some j → (d : A) → (j < length xs) × (P (get_or xs j d) ≡ true)) → (d : A) → (i < length (x ∷ xs)) × (P (get_or (x ∷ xs) i d) ≡ true)
  found_by true x xs zero p e next d = (omega arith, p)
  found_by true x xs (suc i) p e next d = let z : ◌≡◌ {A = ℕ} 0 (suc i) = cc in absurd (omega arith)
  found_by false x xs zero p e next d = let k = one_on_lem (first_place P xs) zero e in absurd (omega (arith, k.2))
  found_by false x xs (suc i) p e next d =
      let k = one_on_lem (first_place P xs) (suc i) e in
      let same : k.0 ≡ i = omega (arith, k.2) in
      let n = next k.0 k.1 d in
      (omega (arith, n.0, same), ap (λ j. P (get_or xs j d)) (sym same) ∙ n.1)

  -- what is found stands there
  pub place_found : (xs : List A) (i : ℕ) → first_place P xs ≡ Some i → (d : A) → (i < length xs) × (P (get_or xs i d) ≡ true)
  place_found [] i e d = let z : ◌≡◌ {A = ℕ} 0 1 = cc in absurd (omega arith)
  place_found (x ∷ xs) i e d = found_by (P x) x xs i refl e (λ j f. place_found xs j f) d

  -- the first place at which it holds is the one before which it never does
  pub place_first : (i : ℕ) (xs : List A) (d : A) → i < length xs → P (get_or xs i d) ≡ true → ((j : ℕ) → j < i → P (get_or xs j d) ≡ false) → first_place P xs ≡ Some i
  place_first i [] d h e not = absurd (omega arith)
  place_first zero (x ∷ xs) d h e not = ap (λ b. cond b (Some 0) (one_on (first_place P xs))) e
  place_first (suc i) (x ∷ xs) d h e not = ap (λ b. cond b (Some 0) (one_on (first_place P xs))) (not 0 (omega arith)) ∙ ap one_on (place_first i xs d (omega arith) e (λ j l. not (suc j) (omega arith)))

  first_by : (b : Bool) (x : A) (xs : List A) → first_place P xs ≡ cond (ltb (position_or_len P xs) (length xs)) (Some (position_or_len P xs)) None → cond b (Some 0) (one_on (first_place P xs)) ≡ cond (ltb (cond (not b) (1 + position_or_len P xs) 0) (suc (length xs))) (Some (cond (not b) (1 + position_or_len P xs) 0)) None
  first_by true x xs e = grind arith
  first_by false x xs e = grind (arith, e)

  -- it is what the library's search answers
  pub first_is_position : (xs : List A) → first_place P xs ≡ cond (ltb (position_or_len P xs) (length xs)) (Some (position_or_len P xs)) None
  first_is_position [] = refl
  first_is_position (x ∷ xs) = first_by (P x) x xs (first_is_position xs)
