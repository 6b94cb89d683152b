-- Lists gathered one behind another, and their bytes.
use Rattle.std.proofs.Common.{◌≡◌, ℕ, zero, suc, ◌+◌, ◌*◌, List, [], ◌∷◌, ◌++◌, length, sym, refl, ap, ◌∙◌, append_assoc, suc-mul, add-one, arith, length-append, ◌<◌, ◌≤◌, inl, inr, append-nil}
use Rattle.std.proofs.lemmas.List.{nil_from_length}
use Rattle.std.proofs.lemmas.Bool.{cases_lt}
use Rattle.result.specs.Gathered.{gathered, each_of}

pub gathered_none : {A : Type 0} (g : ℕ → List A) → gathered g 0 ≡ []
unfolding gathered
gathered_none g = refl

pub gathered_more : {A : Type 0} (g : ℕ → List A) (i : ℕ) → gathered g (i + 1) ≡ gathered g i ++ g i
unfolding gathered
gathered_more g i = rw add-one

-- what is gathered at a place is among what is gathered up to a later one
pub gathered_within : {A : Type 0} (g : ℕ → List A) (i n : ℕ) → i < n → length (gathered g i) + length (g i) ≤ length (gathered g n)
unfolding gathered
gathered_within g i zero h = absurd (omega arith)
gathered_within g i (suc n) h =
    elim (cases_lt i n) [
      | inl l ↦ omega (arith, length-append (gathered g n) (g n), gathered_within g i n l)
      | inr l ↦ let e : i ≡ n = omega arith in omega (arith, length-append (gathered g n) (g n), ap (λ k. length (gathered g k) + length (g k)) e)
    ]

-- where the first i places have as many as the first n, nothing comes behind them
pub gathered_all : {A : Type 0} (g : ℕ → List A) (i n : ℕ) → i < n → length (gathered g i) ≡ length (gathered g n) → gathered g i ≡ gathered g n
unfolding gathered
gathered_all g i zero h e = absurd (omega arith)
gathered_all g i (suc n) h e =
    let none : length (g n) ≡ 0 → gathered g n ≡ gathered g n ++ g n = λ z. sym (ap (λ ys. gathered g n ++ ys) (nil_from_length (g n) z) ∙ append-nil (gathered g n)) in
    let size = length-append (gathered g n) (g n) in
    elim (cases_lt i n) [
      | inl l ↦ let le = gathered_within g i n l in gathered_all g i n l (omega (arith, e, size, le)) ∙ none (omega (arith, e, size, le))
      | inr l ↦ let same : i ≡ n = omega arith in ap (gathered g) same ∙ none (omega (arith, e, size, ap (λ k. length (gathered g k)) same))
    ]

pub gathered_ones : {A : Type 0} (f : ℕ → A) (n : ℕ) → length (gathered (λ i. f i ∷ []) n) ≡ n
unfolding gathered
gathered_ones f zero = refl
gathered_ones f (suc n) = omega (arith, length-append (gathered (λ i. f i ∷ []) n) (f n ∷ []), gathered_ones f n)

pub each_append : {A : Type 0} (f : A → List ℕ) (xs ys : List A) → each_of f (xs ++ ys) ≡ each_of f xs ++ each_of f ys
each_append f [] ys = refl
each_append f (x ∷ xs) ys = ap (λ z. f x ++ z) (each_append f xs ys) ∙ sym (append_assoc (f x) (each_of f xs) (each_of f ys))

pub each_more : {A : Type 0} (f : A → List ℕ) (g : ℕ → List A) (i : ℕ) → each_of f (gathered g (i + 1)) ≡ each_of f (gathered g i) ++ each_of f (g i)
each_more f g i = ap (each_of f) (gathered_more g i) ∙ each_append f (gathered g i) (g i)

-- elements of one width
pub each_length : {A : Type 0} (f : A → List ℕ) (k : ℕ) → ((x : A) → length (f x) ≡ k) → (xs : List A) → length (each_of f xs) ≡ length xs * k
each_length f k h [] = omega arith
each_length f k h (x ∷ xs) = omega (arith, length-append (f x) (each_of f xs), h x, each_length f k h xs, suc-mul (length xs) k)
