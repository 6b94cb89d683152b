-- Rolls, code by code.
use Rattle.std.proofs.Common.{◌≡◌, ℕ, zero, suc, ◌+◌, ◌<◌, ◌≤◌, true, ◌&&◌, ltb, leb, List, [], ◌∷◌, length, get_or, take, sym, ap, ◌∙◌, subst, add-one, arith, get_or-take, ltb-true, leb-true}
use Rattle.std.proofs.lemmas.Bool.{and_parts}
use Rattle.terms.specs.Rolls.{is_roll, rises_from}

rises_rest : (n c : ℕ) (cs : List ℕ) → rises_from n (c ∷ cs) ≡ true → (n < c) × (c ≤ 999) × (rises_from c cs ≡ true)
rises_rest n c cs e =
    let a = and_parts (ltb n c) (leb c 999 && rises_from c cs) e in
    let b = and_parts (leb c 999) (rises_from c cs) a.1 in
    (ltb-true n c a.0, leb-true c 999 b.0, b.1)

rises_first : (n : ℕ) (cs : List ℕ) → 0 < length cs → rises_from n cs ≡ true → n < get_or cs 0 0
rises_first n [] l e = absurd (omega arith)
rises_first n (c ∷ cs) l e = (rises_rest n c cs e).0

rises_next : (n i : ℕ) (cs : List ℕ) → suc i < length cs → rises_from n cs ≡ true → get_or cs i 0 < get_or cs (suc i) 0
rises_next n i [] l e = absurd (omega arith)
rises_next n zero (c ∷ cs) l e = rises_first c cs (omega arith) (rises_rest n c cs e).2
rises_next n (suc i) (c ∷ cs) l e = rises_next c i cs (omega arith) (rises_rest n c cs e).2

rises_most : (n i : ℕ) (cs : List ℕ) → i < length cs → rises_from n cs ≡ true → get_or cs i 0 ≤ 999
rises_most n i [] l e = absurd (omega arith)
rises_most n zero (c ∷ cs) l e = (rises_rest n c cs e).1
rises_most n (suc i) (c ∷ cs) l e = rises_most c i cs (omega arith) (rises_rest n c cs e).2

-- what a docket keeps of a lawful roll at the front of its codes
pub record RollFacts (n : ℕ) (codes : List ℕ) : Type 0 where
  pub least : 2 ≤ n
  pub most : n ≤ 64
  pub first : 1 ≤ get_or codes 0 0
  pub rising : (i : ℕ) → i + 1 < n → get_or codes i 0 < get_or codes (i + 1) 0
  pub last : (i : ℕ) → i < n → get_or codes i 0 ≤ 999

pub roll_facts : (cs codes : List ℕ) → take (length cs) codes ≡ cs → is_roll cs ≡ true → RollFacts (length cs) codes
roll_facts cs codes e r =
    let a = and_parts (leb 2 (length cs)) (leb (length cs) 64 && rises_from 0 cs) r in
    let b = and_parts (leb (length cs) 64) (rises_from 0 cs) a.1 in
    let two : 2 ≤ length cs = leb-true 2 (length cs) a.0 in
    let at : (i : ℕ) → i < length cs → get_or cs i 0 ≡ get_or codes i 0 = λ i h. ap (λ x. get_or x i 0) (sym e) ∙ get_or-take (length cs) codes i 0 h in
    record {
      least = two;
      most = leb-true (length cs) 64 b.0;
      first = subst (λ x. 0 < x) (at 0 (omega arith)) (rises_first 0 cs (omega arith) b.1);
      rising = λ i h. subst (λ k. get_or codes i 0 < get_or codes k 0) (sym (add-one i)) (let up : suc i < length cs = omega arith in omega (arith, rises_next 0 i cs up b.1, at i (omega arith), at (suc i) up));
      last = λ i h. subst (λ x. x ≤ 999) (at i h) (rises_most 0 i cs h b.1);
    }
