-- A result says what the questions answer.
use Rattle.std.proofs.Common.{◌≡◌, ℕ, zero, suc, ◌<◌, ◌≤◌, Bool, true, false, cond, not, ◌&&◌, eqb, [], ◌∷◌, length, get_or, drop, is_some, Some, unwrap_or, sym, refl, ap, ◌∙◌, inl, inr, add-one, arith, length-append, length-take, get_or-take, eq-eqb, ne_eqb}
use Rattle.std.proofs.lemmas.Bool.{cases_lt}
use Rattle.terms.specs.Dockets.{roll_of}
use Rattle.terms.specs.Rolls.{first_place, place_in}
use Rattle.terms.specs.declared.docket.Docket.{Docket}
use Rattle.terms.specs.declared.refusal.Refusal.TheVariants.{NotCleared, NotListed}
use Rattle.terms.proofs.Places.{behind, place_here, place_on_lem, place_start}
use Rattle.clearing.specs.Choices.{entry_at, left_out, size, up_to}
use Rattle.clearing.specs.Table.{cover_of}
use Rattle.clearing.specs.declared.sheet.Sheet.{Sheet}
use Rattle.clearing.proofs.Sums.{up_to_more, up_to_none}
use Rattle.table.specs.Entries.{entries_of, kept_of}
use Rattle.session.specs.Questions.{SheetIn, position_at}
use Rattle.session.specs.Refusals.{first_holding, rule, unless}
use Rattle.session.specs.declared.session.Session.{Session}
use Rattle.session.specs.declared.session.mark.Mark.TheVariants.{Unmarked, Kept, Withdrawn, Returned}
use Rattle.result.specs.Agreement.{Agrees}
use Rattle.result.specs.Value.{is_withdrawn, withdrawn_at, withdrawn_of, withdrawn_up_to}
use Rattle.result.proofs.Gathering.{gathered_more, gathered_none}

module _ (d : Docket) where
  -- of two members the later has the greater code
  rises : (i j : ℕ) → j < i → i < d.members → get_or d.codes j 0 < get_or d.codes i 0
  rises zero j h l = absurd (omega arith)
  rises (suc i) j h l =
      let up : get_or d.codes i 0 < get_or d.codes (suc i) 0 = omega (arith, d.rising i (omega arith), ap (λ k. get_or d.codes k 0) (add-one i)) in
      elim (cases_lt j i) [
        | inl k ↦ omega (arith, rises i j k (omega arith), up)
        | inr k ↦ let e : j ≡ i = omega arith in omega (arith, ap (λ k. get_or d.codes k 0) e, up)
      ]

  code_is : (i : ℕ) → i < length (roll_of d) → get_or (roll_of d) i 0 ≡ get_or d.codes i 0
  code_is i h = get_or-take d.members d.codes i 0 (omega (arith, length-take d.members d.codes))

  earlier : (i j : ℕ) → j < i → i < length (roll_of d) → eqb (get_or (roll_of d) j 0) (get_or (roll_of d) i 0) ≡ false
  earlier i j h l = ne_eqb _ _ (λ e. omega (arith, e, code_is i l, code_is j (omega arith), rises i j h (omega (arith, length-take d.members d.codes))))

  passed : (i k : ℕ) → i < length (roll_of d) → k ≤ i → place_in (roll_of d) (get_or (roll_of d) i 0) ≡ behind k (first_place (λ c. eqb c (get_or (roll_of d) i 0)) (drop k (roll_of d)))
  passed i zero l h = place_start (λ c. eqb c (get_or (roll_of d) i 0)) (roll_of d)
  passed i (suc k) l h =
      let P : ℕ → Bool = λ c. eqb c (get_or (roll_of d) i 0) in
      passed i k l (omega arith) ∙ place_on_lem P k (roll_of d) 0 (omega arith) (earlier i k (omega arith) l) ∙ ap (λ n. behind n (first_place P (drop n (roll_of d)))) (add-one k)

  -- the place of the code at a place is that place
  pub place_of_code : (i : ℕ) → i < length (roll_of d) → place_in (roll_of d) (get_or (roll_of d) i 0) ≡ Some i
  place_of_code i l = passed i i l (omega arith) ∙ place_here (λ c. eqb c (get_or (roll_of d) i 0)) i (roll_of d) 0 l (eq-eqb _ _ refl)

-- what is marked withdrawn while cleared is what the clearing left out
one_left : (s : Session) (i : ℕ) → s.cleared ≡ true → length (withdrawn_at s i) ≡ cond (left_out (entries_of s.table) (kept_of s.table) i) 1 0
one_left s i e =
    let x = entry_at (entries_of s.table) i in
    let at : Bool → Bool → Bool → ℕ = λ c b k. length (cond (is_withdrawn (cond c (cond b Returned (cond k Kept Withdrawn)) Unmarked)) (x ∷ []) []) in
    let both : (b k : Bool) → at true b k ≡ cond (not b && not k) 1 0 = λ b k.
    elim b as (λ v. at true v k ≡ cond (not v && not k) 1 0) [ true ↦ refl | false ↦ elim k as (λ v. at true false v ≡ cond (not false && not v) 1 0) [ true ↦ refl | false ↦ refl ] ] in
    ap (λ c. at c x.returned (kept_of s.table i)) e ∙ both x.returned (kept_of s.table i)

left_up_to : (s : Session) (n : ℕ) → s.cleared ≡ true → length (withdrawn_up_to s n) ≡ up_to (λ i. cond (left_out (entries_of s.table) (kept_of s.table) i) 1 0) n
left_up_to s zero e = ap length (gathered_none (withdrawn_at s)) ∙ sym (up_to_none _)
left_up_to s (suc n) e =
    let f : ℕ → ℕ = λ i. cond (left_out (entries_of s.table) (kept_of s.table) i) 1 0 in
    omega (arith, ap (λ k. length (withdrawn_up_to s k)) (add-one n), ap length (gathered_more (withdrawn_at s) n), length-append (withdrawn_up_to s n) (withdrawn_at s n), one_left s n e, left_up_to s n e, up_to_more f n, ap (up_to f) (add-one n))

pub result_agrees : (s : Session) → s.cleared ≡ true → Agrees s
unfolding size
result_agrees s e =
    record {
      position = λ i h j. unless (first_holding (rule NotCleared (not (e j)) ∷ rule NotListed (not (is_some (place_of_code s.docket i h j))) ∷ [])) (position_at s (unwrap_or (place_of_code s.docket i h j) 0));
      cover = λ i h j. unless (first_holding (rule NotCleared (not (e j)) ∷ rule NotListed (not (is_some (place_of_code s.docket i h j))) ∷ [])) (cover_of s.covers (unwrap_or (place_of_code s.docket i h j) 0));
      count = left_up_to s (length (entries_of s.table)) e;
    }

-- a sheet counts the records that the result lists as withdrawn
pub sheet_counts : (s : Session) (t : Sheet) → SheetIn s t → s.cleared ≡ true → t.withdrawn ≡ length (withdrawn_of s)
sheet_counts s t h e = h.withdrawn ∙ sym (result_agrees s e).count
