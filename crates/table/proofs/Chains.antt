-- The chain of a bucket, entry by entry, and how it stays in step with the entries.
use Rattle.std.proofs.Common.{◌≡◌, ℕ, zero, suc, ◌+◌, ◌<◌, ◌≤◌, Bool, true, false, cond, eqb, List, length, get_or, drop, set, Option, sym, refl, ap, ◌∙◌, inl, inr, add-one, arith}
use Rattle.std.proofs.lemmas.List.{get_or-set_same, get_or-set_other}
use Rattle.std.proofs.lemmas.Bool.{cases_Bool, cases_eq, eq-eqb, ne_eqb}
use Rattle.terms.specs.Rolls.{first_place}
use Rattle.terms.proofs.Places.{behind, place_on_lem}
use Rattle.clearing.specs.Choices.{entry_at, no_entry}
use Rattle.clearing.specs.declared.entry.Entry.{Entry}
use Rattle.table.specs.Buckets.{Heads, Links, bucket_at, last_below}

-- the first place from n on whose entry is as wanted
abbrev pub from : (Entry → Bool) → List Entry → ℕ → Option ℕ
from P es n = behind n (first_place P (drop n es))

module _ (at : ℕ → ℕ) (bucket : ℕ) where
  last_here : (n : ℕ) → at n ≡ bucket → last_below at bucket (suc n) ≡ suc n
  last_here n e = ap (λ b. cond b (suc n) (last_below at bucket n)) (eq-eqb (at n) bucket e)

  last_on : (n : ℕ) → (at n ≡ bucket → ⊥) → last_below at bucket (suc n) ≡ last_below at bucket n
  last_on n ne = ap (λ b. cond b (suc n) (last_below at bucket n)) (ne_eqb (at n) bucket ne)

  pub last_low : (n : ℕ) → last_below at bucket n ≤ n
  last_low zero = omega arith
  last_low (suc n) =
      elim (cases_eq (at n) bucket) [
        | inl e ↦ omega (arith, last_here n e)
        | inr ne ↦ omega (arith, last_on n ne, last_low n)
      ]

  -- what a head or a link names is in the bucket
  pub last_is : (n k : ℕ) → last_below at bucket n ≡ suc k → at k ≡ bucket
  last_is zero k is = absurd (omega arith)
  last_is (suc n) k is =
      elim (cases_eq (at n) bucket) [
        | inl e ↦ let same : k ≡ n = omega (arith, last_here n e) in ap at same ∙ e
        | inr ne ↦ last_is n k (sym (last_on n ne) ∙ is)
      ]

  -- between two of a chain no entry is the record
  module _ (P : Entry → Bool) (es : List Entry) (all : (j : ℕ) → j < length es → P (entry_at es j) ≡ true → at j ≡ bucket) where
    pub none_between : (n : ℕ) → n ≤ length es → from P es (last_below at bucket n) ≡ from P es n
    none_between zero h = refl
    none_between (suc n) h =
        elim (cases_eq (at n) bucket) [
          | inl e ↦ ap (from P es) (last_here n e)
          | inr ne ↦
              let not : P (entry_at es n) ≡ false = elim (cases_Bool (P (entry_at es n))) [ inl is ↦ absurd (ne (all n (omega arith) is)) | inr is ↦ is ] in
              ap (from P es) (last_on n ne) ∙ none_between n (omega arith) ∙ place_on_lem P n es no_entry (omega arith) not ∙ ap (from P es) (add-one n)
        ]

last_same : (f g : ℕ → ℕ) (bucket n : ℕ) → ((j : ℕ) → j < n → f j ≡ g j) → last_below f bucket n ≡ last_below g bucket n
last_same f g bucket zero same = refl
last_same f g bucket (suc n) same = λ i. cond (eqb (same n (omega arith) i) bucket) (suc n) (last_same f g bucket n (λ j h. same j (omega arith)) i)

module _ (es fs : List Entry) (n : ℕ) (same : (j : ℕ) → j < n → bucket_at es j ≡ bucket_at fs j) where
  -- the first n entries are in the buckets they were in
  pub heads_stay : (heads : List ℕ) → Heads heads es n → Heads heads fs n
  heads_stay heads led b h = led b h ∙ last_same (bucket_at es) (bucket_at fs) b n same

  pub links_stay : (links : List ℕ) → Links links es n → Links links fs n
  links_stay links linked i h =
      linked i h ∙ last_same (bucket_at es) (bucket_at fs) (bucket_at es i) i (λ j l. same j (omega arith)) ∙ ap (λ b. last_below (bucket_at fs) b i) (same i h)

  -- one entry more is entered as the last of its bucket
  pub heads_more : (heads : List ℕ) → length heads ≡ 4096 → Heads heads es n → Heads (set heads (bucket_at fs n) (n + 1)) fs (n + 1)
  heads_more heads long led b h =
      elim (cases_eq (bucket_at fs n) b) [
        | inl e ↦ ap (λ k. get_or (set heads k (n + 1)) b 0) e ∙ get_or-set_same heads b (n + 1) 0 (omega (arith, long)) ∙ add-one n ∙ sym (last_here (bucket_at fs) b n e) ∙ ap (last_below (bucket_at fs) b) (sym (add-one n))
        | inr ne ↦ get_or-set_other heads (bucket_at fs n) b (n + 1) 0 (λ e. ne (sym e)) ∙ heads_stay heads led b h ∙ sym (last_on (bucket_at fs) b n ne) ∙ ap (last_below (bucket_at fs) b) (sym (add-one n))
      ]

  pub links_more : (heads links : List ℕ) → n < length links → bucket_at fs n < 4096 → Heads heads es n → Links links es n → Links (set links n (get_or heads (bucket_at fs n) 0)) fs (n + 1)
  links_more heads links room low led linked i h =
      let name = get_or heads (bucket_at fs n) 0 in
      elim (cases_eq i n) [
        | inl e ↦ ap (λ k. get_or (set links n name) k 0) e ∙ get_or-set_same links n name 0 room ∙ heads_stay heads led (bucket_at fs n) low ∙ ap (λ k. last_below (bucket_at fs) (bucket_at fs k) k) (sym e)
        | inr ne ↦ get_or-set_other links n i name 0 ne ∙ links_stay links linked i (omega arith)
      ]
