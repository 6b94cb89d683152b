-- How long a result is, and what its writing answers.
use Rattle.std.proofs.Common.{◌≡◌, ℕ, zero, suc, ◌+◌, ◌*◌, ◌≤◌, true, false, cond, List, [], ◌∷◌, ◌++◌, length, sym, ap, ◌∙◌, add-one, arith, length-append, Bool, Some, None, refl, inl, inr, lt-ltb}
use Rattle.std.proofs.lemmas.List.{get_or_past}
use Rattle.std.proofs.lemmas.Bool.{cases_lt}
use Rattle.terms.specs.Dockets.{day_of, roll_of}
use Rattle.terms.specs.declared.currency.Currency.{Currency}
use Rattle.terms.specs.declared.cycle.Cycle.{Cycle}
use Rattle.clearing.specs.declared.entry.Entry.{Entry}
use Rattle.session.specs.declared.session.mark.Mark.TheVariants.{Unmarked, Kept, Withdrawn, Returned}
use Rattle.clearing.specs.Choices.{entry_at, no_entry}
use Rattle.table.specs.Entries.{entries_of, entry_in, kept_of}
use Rattle.pen.specs.Buffer.{Wrote, fronted}
use Rattle.pen.proofs.Lent.{wrote_as, wrote_front, wrote_more}
use Rattle.table.proofs.Held.{held_long}
use Rattle.session.proofs.Rolls.{roll_few}
use Rattle.session.specs.Questions.{mark_of}
use Rattle.session.specs.declared.session.Session.{Session}
use Rattle.result.specs.Answers.{result_bytes}
use Rattle.result.specs.Gathered.{each_of}
use Rattle.result.specs.Layout.{FitsTotals, enc_header, enc_member, enc_totals, enc_withdrawn, positive_sum}
use Rattle.result.specs.Value.{is_withdrawn, line_at, lines_of, result_of, withdrawn_at, withdrawn_of, withdrawn_up_to}
use Rattle.result.proofs.Gathering.{gathered_more, gathered_none, gathered_ones}
use Rattle.result.proofs.Numbers.{sum_low}
use Rattle.result.proofs.Written.{members_long, withdrawn_long}

-- nothing past the last entry is withdrawn
pub withdrawn_past : (s : Session) (i : ℕ) → length (entries_of s.table) ≤ i → [] ≡ withdrawn_at s i
withdrawn_past s i h =
    let es = entries_of s.table in
    let k = kept_of s.table i in
    let e : entry_at es i ≡ no_entry = get_or_past es i no_entry h in
    let at : Bool → Bool → List Entry = λ c b. cond (is_withdrawn (cond c (cond b Returned (cond k Kept Withdrawn)) Unmarked)) (entry_at es i ∷ []) [] in
    let none : (c : Bool) → at c true ≡ [] = λ c. elim c as (λ v. at v true ≡ []) [ true ↦ refl | false ↦ refl ] in
    sym (ap (λ (x : Entry). at s.cleared x.returned) e ∙ none s.cleared)

-- nor where no entry stands
pub withdrawn_none : (s : Session) (i : ℕ) → None ≡ entry_in (entries_of s.table) i → [] ≡ withdrawn_at s i
withdrawn_none s i e =
    let es = entries_of s.table in
    elim (cases_lt i (length es)) [
      | inl l ↦ absurd (let f : None ≡ Some (entry_at es i) = e ∙ ap (λ b. cond b (Some (entry_at es i)) None) (lt-ltb i (length es) l) in let z : ◌≡◌ {A = ℕ} 0 1 = cc in omega arith)
      | inr l ↦ withdrawn_past s i l
    ]

-- 9 bytes for the header, 21 for each member, 18 for each withdrawn record and 15 for the totals
pub result_long : (s : Session) → length (result_bytes s) ≡ length (roll_of s.docket) * 21 + length (withdrawn_of s) * 18 + 24
result_long s =
    let ms = lines_of s in
    let ws = withdrawn_of s in
    let t = enc_totals (length ms) (length ws) (positive_sum ms) in
    omega (arith, length-append (each_of enc_member ms) (each_of enc_withdrawn ws ++ t), length-append (each_of enc_withdrawn ws) t, members_long ms, withdrawn_long ws, gathered_ones (line_at s) (length (roll_of s.docket)))

-- the records of a session, written one behind another from the start on, are its result
pub all_written_lem : (s : Session) (currency : Currency) (cycle : Cycle) (date members withdrawn sum : ℕ) {old o1 o2 o3 o4 : List ℕ} {e1 e2 e3 e4 : ℕ} →
    currency ≡ (day_of s.docket).currency → cycle ≡ (day_of s.docket).cycle → date ≡ (day_of s.docket).date → members ≡ length (roll_of s.docket) → withdrawn ≡ length (withdrawn_of s) → sum ≡ positive_sum (lines_of s) →
    Wrote old 0 (enc_header currency cycle date) o1 e1 → Wrote o1 e1 (each_of enc_member (lines_of s)) o2 e2 → Wrote o2 e2 (each_of enc_withdrawn (withdrawn_of s)) o3 e3 → Wrote o3 e3 (enc_totals members withdrawn sum) o4 e4 →
    o4 ≡ fronted (result_bytes s) old
all_written_lem s currency cycle date members withdrawn sum a b d em ew es h p q t =
    let m : length (lines_of s) ≡ members = gathered_ones (line_at s) (length (roll_of s.docket)) ∙ sym em in
    let he : enc_header (day_of s.docket).currency (day_of s.docket).cycle (day_of s.docket).date ≡ enc_header currency cycle date = λ i. enc_header (sym a i) (sym b i) (sym d i) in
    let te : enc_totals (length (lines_of s)) (length (withdrawn_of s)) (positive_sum (lines_of s)) ≡ enc_totals members withdrawn sum = λ i. enc_totals (m i) (sym ew i) (sym es i) in
    wrote_front (wrote_more (wrote_as he h) (wrote_more p (wrote_more q (wrote_as te t))))

one_at_most : (s : Session) (i : ℕ) → length (withdrawn_at s i) ≤ 1
one_at_most s i =
    let e = entry_at (entries_of s.table) i in
    elim (is_withdrawn (mark_of s i)) as (λ v. length (cond v (e ∷ []) []) ≤ 1) [ true ↦ omega arith | false ↦ omega arith ]

withdrawn_few : (s : Session) (n : ℕ) → length (withdrawn_up_to s n) ≤ n
withdrawn_few s zero = omega (arith, ap length (gathered_none (withdrawn_at s)))
withdrawn_few s (suc n) =
    omega (arith, ap (λ k. length (withdrawn_up_to s k)) (add-one n), ap length (gathered_more (withdrawn_at s) n), length-append (withdrawn_up_to s n) (withdrawn_at s n), one_at_most s n, withdrawn_few s n)

pub totals_fit : (s : Session) → FitsTotals (result_of s)
totals_fit s =
    let n = length (roll_of s.docket) in
    let few = roll_few s.docket in
    let t = s.table in
    record {
      members = omega (arith, gathered_ones (line_at s) n, few);
      withdrawn = omega (arith, withdrawn_few s (length (entries_of t)), held_long t, t.within, t.small);
      sum = omega (arith, sum_low s n, few);
    }
