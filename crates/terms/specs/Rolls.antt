-- The roll of a session's members, and its docket.
use Rattle.std.specs.Prelude.{ℕ, suc, Bool, true, cond, ◌&&◌, List, [], ◌∷◌, length, Some, None, Option, nat_eq, nat_le, nat_lt}

-- each code is above the one before it, the first above n, and none is above 999
abbrev pub rises_from : ℕ → List ℕ → Bool
rises_from n [] = true
rises_from n (c ∷ cs) = nat_lt n c && (nat_le c 999 && rises_from c cs)

-- 2 to 64 rising member codes from 1 to 999
abbrev pub is_roll : List ℕ → Bool
is_roll cs = nat_le 2 (length cs) && (nat_le (length cs) 64 && rises_from 0 cs)

abbrev pub one_on : Option ℕ → Option ℕ
one_on None = None
one_on (Some i) = Some (suc i)

-- the place of the first element of which something holds, from 0
abbrev pub first_place : {A : Type 0} → (A → Bool) → List A → Option ℕ
first_place P [] = None
first_place P (x ∷ xs) = cond (P x) (Some 0) (one_on (first_place P xs))

-- the place of a code on a roll
abbrev pub place_in : List ℕ → ℕ → Option ℕ
place_in cs code = first_place (λ c. nat_eq c code) cs
