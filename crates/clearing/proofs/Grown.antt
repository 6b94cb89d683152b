-- Greatest choices under rules of one meaning and other covers.
use Rattle.std.proofs.Common.{◌≡◌, ℕ, Bool, true, false, not, List, sym, refl, ap, ◌∙◌, inl, inr, arith}
use Rattle.std.proofs.lemmas.Bool.{cases_Bool, both_ways, and_parts}
use Rattle.rules.specs.Order.{Order}
use Rattle.clearing.specs.Choices.{key_at, live, Choice, Greatest}
use Rattle.clearing.specs.Laws.{GrowsWithCovers, LeftOutNowhereElse, PaymentsCovered, Unique}
use Rattle.clearing.specs.Table.{Cleared}
use Rattle.clearing.specs.declared.entry.Entry.{Entry}
use Rattle.clearing.specs.declared.place.Place.{Place}

-- equal covers have the same greatest choice
pub greatest_cover : {a : Order} {c c' : ℕ → ℕ} {es : List Entry} {K : Choice} → ((m : ℕ) → c m ≡ c' m) → Greatest a c es K → Greatest a c' es K
greatest_cover same g = record {
  lawful = g.lawful;
  enough = record { covered = λ m l. omega (arith, g.enough.covered m l, same m) };
  contains = λ D l v. g.contains D l (record { covered = λ m k. omega (arith, v.covered m k, same m) });
}

pub cleared_cover : {a : Order} {c c' : ℕ → ℕ} {old new : List Place} {n : ℕ} → ((m : ℕ) → c m ≡ c' m) → Cleared a c old new n → Cleared a c' old new n
cleared_cover same k = record { greatest = greatest_cover same k.greatest; same = k.same; count = k.count }

pub nowhere_else : LeftOutNowhereElse
nowhere_else ahead cover es C g D l v i e =
    elim (cases_Bool (D i)) [
      | inl d ↦ absurd (both_ways (not (C i)) (ap not (g.contains D l v i d)) (and_parts (live es i) (not (C i)) e).1)
      | inr d ↦ d
    ]

pub covered : PaymentsCovered
covered ahead cover es C g = g.enough.covered

pub grows : GrowsWithCovers
grows ahead ahead' cover cover' es C D same more g g' =
    g'.contains C
    (record { alive = g.lawful.alive; closed = λ i j k v p o. g.lawful.closed i j k v p (same (key_at es j) (key_at es i) ∙ o) })
    (record { covered = λ m l. omega (arith, g.enough.covered m l, more m l) })

pub one : Unique
one ahead cover es C D g h i = both (C i) (D i) (h.contains C g.lawful g.enough i) (g.contains D h.lawful h.enough i)
  where
    both : (x y : Bool) → (x ≡ true → y ≡ true) → (y ≡ true → x ≡ true) → x ≡ y
    both true y f b = sym (f refl)
    both false true f b = b refl
    both false false f b = refl
