-- The front of a table, which a clearing goes over, and what lies behind it.
use Rattle.std.proofs.Common.{◌≡◌, ℕ, min, List, ◌++◌, length, take, drop, sym, ap, ◌∙◌, inl, inr, arith, length-drop}
use Rattle.std.proofs.lemmas.List.{take_all, take_at, drop_at, drop_all, length-append, append-nil}
use Rattle.std.proofs.lemmas.Bool.{cases_lt}

module _ {X : Type 0} (k n : ℕ) (xs : List X) (is : n ≡ min k (length xs)) where
  pub take_within : take n xs ≡ take k xs
  take_within =
      elim (cases_lt k (length xs)) [
        | inl h ↦ let e : n ≡ k = omega arith in ap (λ (i : ℕ). take i xs) e
        | inr h ↦ take_all n xs (omega arith) ∙ sym (take_all k xs h)
      ]

  module _ (ys : List X) (long : length ys ≡ n) where
    pub front_is : take k (ys ++ drop n xs) ≡ ys
    front_is =
        elim (cases_lt k (length xs)) [
          | inl h ↦ take_at ys (drop n xs) k (omega arith)
          | inr h ↦ ap (λ (l : List X). take k (ys ++ l)) (drop_all n xs (omega arith)) ∙ ap (take k) (append-nil ys) ∙ take_all k ys (omega arith)
        ]

    pub behind_is : drop k (ys ++ drop n xs) ≡ drop k xs
    behind_is =
        elim (cases_lt k (length xs)) [
          | inl h ↦ let e : n ≡ k = omega arith in drop_at ys (drop n xs) k (omega arith) ∙ ap (λ (i : ℕ). drop i xs) e
          | inr h ↦ drop_all k (ys ++ drop n xs) (omega (arith, length-append ys (drop n xs), length-drop n xs)) ∙ sym (drop_all k xs h)
        ]
