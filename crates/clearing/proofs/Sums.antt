-- Sums over the first places of a table.
use Rattle.std.proofs.Common.{◌≡◌, ℕ, zero, suc, ◌+◌, ◌*◌, ◌<◌, ◌≤◌, Bool, true, false, cond, ◌&&◌, eqb, List, length, sym, refl, ap, ◌∙◌, inl, inr, suc-mul, add-one, arith}
use Rattle.std.proofs.lemmas.Bool.{cases_eq, and_parts, and_from, eq-eqb, ne_eqb}
use Rattle.clearing.specs.Choices.{up_to, entry_at, Choice, share, total, size}
use Rattle.clearing.specs.declared.entry.Entry.{Entry}

pub up_to_none : (f : ℕ → ℕ) → up_to f 0 ≡ 0
unfolding up_to
up_to_none f = refl

pub up_to_more : (f : ℕ → ℕ) (i : ℕ) → up_to f (i + 1) ≡ up_to f i + f i
unfolding up_to
up_to_more f i = rw add-one

pub up_to_mono : (f g : ℕ → ℕ) (n : ℕ) → ((i : ℕ) → i < n → f i ≤ g i) → up_to f n ≤ up_to g n
unfolding up_to
up_to_mono f g zero h = omega arith
up_to_mono f g (suc n) h = omega (arith, up_to_mono f g n (λ i l. h i (omega arith)), h n (omega arith))

pub up_to_same : (f g : ℕ → ℕ) (n : ℕ) → ((i : ℕ) → i < n → f i ≡ g i) → up_to f n ≡ up_to g n
unfolding up_to
up_to_same f g zero h = refl
up_to_same f g (suc n) h = omega (arith, up_to_same f g n (λ i l. h i (omega arith)), h n (omega arith))

-- one place made 0
pub up_to_drop : (f g : ℕ → ℕ) (n r : ℕ) → r < n → g r ≡ 0 → ((i : ℕ) → (i ≡ r → ⊥) → g i ≡ f i) → up_to f n ≡ up_to g n + f r
unfolding up_to
up_to_drop f g zero r l z h = omega arith
up_to_drop f g (suc n) r l z h =
    elim (cases_eq n r) [
      | inl e ↦ omega (arith, up_to_same f g n (λ i k. sym (h i (omega arith))), ap f e, ap g e)
      | inr ne ↦ omega (arith, up_to_drop f g n r (omega arith) z h, h n ne)
    ]

pub up_to_le : (f : ℕ → ℕ) (k n : ℕ) → ((i : ℕ) → f i ≤ k) → up_to f n ≤ n * k
unfolding up_to
up_to_le f k zero h = omega arith
up_to_le f k (suc n) h = omega (arith, up_to_le f k n h, h n, suc-mul n k)

pub up_to_zero : (n : ℕ) → up_to (λ i. 0) n ≡ 0
up_to_zero n = omega (arith, up_to_le (λ i. 0) 0 n (λ i. omega arith))

-- a sum above 0 has a place above 0
pub up_to_some : (f : ℕ → ℕ) (n : ℕ) → 0 < up_to f n → (i : ℕ) × (i < n) × (0 < f i)
unfolding up_to
up_to_some f zero h = absurd (omega arith)
up_to_some f (suc n) h =
    elim (cases_eq (f n) 0) [
      | inl e ↦ let p = up_to_some f n (omega arith) in (p.0, omega arith, p.2)
      | inr ne ↦ (n, omega arith, omega arith)
    ]

pub up_to_add : (f g : ℕ → ℕ) (n : ℕ) → up_to (λ i. f i + g i) n ≡ up_to f n + up_to g n
unfolding up_to
up_to_add f g zero = refl
up_to_add f g (suc n) = omega (arith, up_to_add f g n)

-- a sum of sums may be taken in either order
pub up_to_swap : (f : ℕ → ℕ → ℕ) (a n : ℕ) → up_to (λ m. up_to (f m) n) a ≡ up_to (λ i. up_to (λ m. f m i) a) n
unfolding up_to
up_to_swap f a zero = up_to_zero a
up_to_swap f a (suc n) = up_to_add (λ m. up_to (f m) n) (λ m. f m n) a ∙ ap (λ (x : ℕ). x + up_to (λ m. f m n) a) (up_to_swap f a n)

-- of all places, one is k
pub up_to_one : (c : Bool) (k w a : ℕ) → k < a → up_to (λ m. cond (c && eqb k m) w 0) a ≡ cond c w 0
up_to_one c k w a h =
    up_to_drop (λ m. cond (c && eqb k m) w 0) (λ m. 0) a k h refl (λ i ne. sym (off c (eqb k i) (ne_eqb k i (λ e. ne (sym e)))))
    ∙ ap (λ (x : ℕ). x + cond (c && eqb k k) w 0) (up_to_zero a) ∙ on c (eqb k k) (eq-eqb k k refl)
  where
    off : (c e : Bool) → e ≡ false → cond (c && e) w 0 ≡ 0
    off true e p = ap (λ (b : Bool). cond b w 0) p
    off false e p = refl

    on : (c e : Bool) → e ≡ true → 0 + cond (c && e) w 0 ≡ cond c w 0
    on true e p = ap (λ (b : Bool). 0 + cond b w 0) p ∙ omega arith
    on false e p = omega arith

pub cond_le : (c : Bool) (w k : ℕ) → w ≤ k → cond c w 0 ≤ k
cond_le true w k h = h
cond_le false w k h = omega arith

cond_mono : (c d : Bool) (w : ℕ) → (c ≡ true → d ≡ true) → cond c w 0 ≤ cond d w 0
cond_mono true true w h = omega arith
cond_mono true false w h = grind (arith, h refl)
cond_mono false true w h = omega arith
cond_mono false false w h = omega arith

-- the entries in question of C are in D
pub total_mono : (which : Entry → Bool) (es : List Entry) (C D : Choice) → ((i : ℕ) → C i ≡ true → which (entry_at es i) ≡ true → D i ≡ true) → total which es C ≤ total which es D
unfolding total
total_mono which es C D h =
    up_to_mono (share which es C) (share which es D) (length es)
    (λ i l. cond_mono (C i && which (entry_at es i)) (D i && which (entry_at es i)) (entry_at es i).worth
    (λ e. let p = and_parts (C i) (which (entry_at es i)) e in and_from (D i) (which (entry_at es i)) (h i p.0 p.1) p.1))

-- equal choices have equal sums and sizes
pub total_same : (which : Entry → Bool) (es : List Entry) (C D : Choice) → ((i : ℕ) → C i ≡ D i) → total which es C ≡ total which es D
unfolding total
total_same which es C D h =
    up_to_same (share which es C) (share which es D) (length es) (λ i l. ap (λ (b : Bool). cond (b && which (entry_at es i)) (entry_at es i).worth 0) (h i))

pub size_same : (es : List Entry) (C D : Choice) → ((i : ℕ) → C i ≡ D i) → size es C ≡ size es D
unfolding size
size_same es C D h = up_to_same (λ i. cond (C i) 1 0) (λ i. cond (D i) 1 0) (length es) (λ i l. ap (λ (b : Bool). cond b 1 0) (h i))

pub size_le : (es : List Entry) (C : Choice) → size es C ≤ length es
unfolding size
size_le es C = omega (arith, up_to_le (λ i. cond (C i) 1 0) 1 (length es) (λ i. cond_le (C i) 1 1 (omega arith)))

pub size_none : (es : List Entry) (C : Choice) → ((i : ℕ) → C i ≡ false) → size es C ≡ 0
unfolding size
size_none es C h = omega (arith, up_to_le (λ i. cond (C i) 1 0) 0 (length es) (λ i. omega (arith, ap {B = ℕ} (λ (b : Bool). cond b 1 0) (h i))))
