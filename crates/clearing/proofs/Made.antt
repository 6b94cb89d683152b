-- Arrays that are made from a function of the index.
use Rattle.std.proofs.Common.{◌≡◌, ℕ, zero, suc, ◌+◌, ◌<◌, ◌≤◌, List, get_or, sym, subst, inl, inr, arith}
use denote.Param.Members.{Mut, Called}
use Rattle.std.proofs.lemmas.Bool.{cases_eq}
use Rattle.std.specs.Array.{IsFromFnResult, IsFromFnResultFrom}

-- what each call gives, where no call changes the function
module _ {F B : Type 0} (g : Mut F (ℕ × Unit {0}) B) (f : F) (P : ℕ → B → Type 0) (gives : (k : ℕ) (y : B) (q : F) → Called g f (k, tt) y q → (q ≡ f) × P k y) (ys : List B) (d : B) where
  made_from : (n i : ℕ) (h : F) → h ≡ f → IsFromFnResultFrom g h ys i n → (k : ℕ) → i ≤ k → k < i + n → P k (get_or ys k d)
  made_from zero i h e m k low high = absurd (omega arith)
  made_from (suc n) i h e m k low high =
      let c : Called g f (i, tt) m.1 m.0 = subst (λ (x : F). Called g x (i, tt) m.1 m.0) e m.3 in
      let p = gives i m.1 m.0 c in
      elim (cases_eq k i) [
        | inl s ↦ subst (λ (x : ℕ). P x (get_or ys x d)) (sym s) (subst (P i) (sym (m.2.1 d)) p.1)
        | inr ne ↦ made_from n (i + 1) m.0 p.0 m.4 k (omega arith) (omega arith)
      ]

  pub made_at : {n : ℕ} → IsFromFnResult g f ys n → (k : ℕ) → k < n → P k (get_or ys k d)
  made_at {n} m k h = made_from n 0 f (λ _. f) m.each k (omega arith) (omega arith)
