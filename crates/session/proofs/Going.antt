-- What one turn of taking rows keeps.
use Rattle.std.proofs.Common.{◌≡◌, ℕ, suc, ◌+◌, ◌-◌, ◌≤◌, cond, eqb, List, [], ◌∷◌, ◌++◌, length, take, drop, set, Ok, Err, Result, sym, refl, ap, ◌∙◌, subst, subst₂, append_assoc, arith, length-append, length-set, take-suc-set, drop-set-lt}
use Rattle.terms.specs.Codes.{code}
use Rattle.terms.specs.Dockets.{Day}
use Rattle.terms.specs.declared.refusal.Refusal.{Refusal}
use Rattle.rules.specs.Meaning.{Meaning}
use Rattle.wire.specs.Rows.{presentations, presented}
use Rattle.wire.specs.declared.row.Row.{Row}
use Rattle.wire.specs.declared.row.Row.TheVariants.{Presentation, Return}
use Rattle.clearing.specs.declared.entry.Entry.{Entry}
use Rattle.clearing.specs.Choices.{entry_at}
use Rattle.table.specs.Entries.{as_returned}
use Rattle.session.specs.Files.{counted}
use Rattle.session.specs.Rows.{after_row, after_rows, entered, entries_by, outcome_of, outcomes, presentation_taken, put_in, return_taken, row_taken, struck_in, zeros}
use Rattle.session.specs.Senders.{SenderValue}
use Rattle.session.proofs.Codes.{code_above}

pub outcome_put : (es : List Entry) (r : Result Entry Refusal) → outcome_of (put_in es r) ≡ outcome_of r
outcome_put es (Ok e) = refl
outcome_put es (Err c) = refl

pub outcome_struck : (es : List Entry) (r : Result ℕ Refusal) → outcome_of (struck_in es r) ≡ outcome_of r
outcome_struck es (Ok i) = refl
outcome_struck es (Err c) = refl

put_long : (es : List Entry) (r : Result Entry Refusal) → length (entries_by es (put_in es r)) ≤ length es + 1
put_long es (Ok e) = omega (arith, length-append es (e ∷ []))
put_long es (Err c) = omega arith

struck_long : (es : List Entry) (r : Result ℕ Refusal) → length (entries_by es (struck_in es r)) ≤ length es
struck_long es (Ok i) = omega (arith, length-set es i (as_returned (entry_at es i)))
struck_long es (Err c) = omega arith

module _ (day : Day) (m : Meaning) (s : SenderValue) where
  -- a row adds one entry at most, and a return none
  row_long : (es : List Entry) (r : Row) → length (after_row day m s es r) ≤ length es + presentations r
  row_long es (Presentation p) = put_long es (presentation_taken day m s es p)
  row_long es (Return r) = omega (arith, struck_long es (return_taken s es r))

  -- of all rows and a buffer, those left with the entries, the buffer, the place in it, and how many rows so far were taken and how many got a code
  pub record Going (n : ℕ) (from : List Entry) (all : List Row) (start : List ℕ) (left : List Row) (es : List Entry) (out : List ℕ) (at taken turned : ℕ) : Type 0 where
    pub wrote : take at out ++ (outcomes day m s es left ++ drop (at + length left) out) ≡ entered day m s from all start
    pub room : at + length left ≤ length out
    pub place : at + length left ≡ length all
    pub count : taken + zeros (outcomes day m s es left) ≡ zeros (outcomes day m s from all)
    pub both : taken + turned ≡ at
    pub kept : after_rows day m s es left ≡ after_rows day m s from all
    pub held : length es + presented left ≤ n

  -- by the place of the row as a count of the rows says it
  along : {n : ℕ} {from : List Entry} {all : List Row} {start : List ℕ} (left : List Row) (es : List Entry) (out : List ℕ) (v at i at' taken turned : ℕ) → Going n from all start left es (set out at v) (at + 1) taken turned → i ≡ at → at' ≡ at + 1 → Going n from all start left es (set out i v) at' taken turned
  along {n = n} {from = from} {all = all} {start = start} left es out v at i at' taken turned g e f = subst₂ (λ j k. Going n from all start left es (set out j v) k taken turned) (sym e) (sym f) g

  module _ {n : ℕ} {from : List Entry} {all : List Row} {start : List ℕ} {es : List Entry} {out : List ℕ} {at taken turned : ℕ} where
    enters : (rs left : List Row) (r : Row) (es' : List Entry) (v taken' turned' : ℕ) → Going n from all start rs es out at taken turned → rs ≡ r ∷ left → v ≡ outcome_of (row_taken day m s es r) → es' ≡ after_row day m s es r → taken' ≡ taken + cond (eqb v 0) 1 0 → taken' + turned' ≡ at + 1 → Going n from all start left es' (set out at v) (at + 1) taken' turned'
    enters rs left r es' v taken' turned' g e ev eb et both =
        let h : Going n from all start (r ∷ left) es out at taken turned = subst (λ x. Going n from all start x es out at taken turned) e g in
        let cs : List ℕ = outcomes day m s es' left in
        let same : cs ≡ outcomes day m s (after_row day m s es r) left = ap (λ k. outcomes day m s k left) eb in
        let next : at + 1 ≡ suc at = omega arith in
        let more : at + 1 + length left ≡ at + suc (length left) = omega arith in
        let front : take (at + 1) (set out at v) ≡ take at out ++ (v ∷ []) = ap (λ i. take i (set out at v)) next ∙ take-suc-set out at v (omega (arith, h.room)) in
        let back : drop (at + 1 + length left) (set out at v) ≡ drop (at + suc (length left)) out = drop-set-lt (at + 1 + length left) out at v (omega arith) ∙ ap (λ i. drop i out) more in
        record {
          wrote = (λ i. front i ++ (same i ++ back i)) ∙ append_assoc (take at out) (v ∷ []) (outcomes day m s (after_row day m s es r) left ++ drop (at + suc (length left)) out) ∙ ap (λ x. take at out ++ (x ∷ (outcomes day m s (after_row day m s es r) left ++ drop (at + suc (length left)) out))) ev ∙ h.wrote;
          room = omega (arith, h.room, length-set out at v);
          place = omega (arith, h.place);
          count = omega (arith, h.count, ap zeros same, et, ap {B = ℕ} (λ x. cond (eqb x 0) 1 0) ev);
          both = both;
          kept = ap (λ k. after_rows day m s k left) eb ∙ h.kept;
          held = omega (arith, h.held, row_long es r, ap length eb);
        }

    -- a row that is taken, and one that gets a code
    pub takes : (rs left : List Row) (r : Row) (es' : List Entry) (i at' : ℕ) → Going n from all start rs es out at taken turned → rs ≡ r ∷ left → i ≡ at → at' ≡ at + 1 → 0 ≡ outcome_of (row_taken day m s es r) → es' ≡ after_row day m s es r → Going n from all start left es' (set out i 0) at' (taken + 1) turned
    takes rs left r es' i at' g e ei ea ev eb = along left es' out 0 at i at' (taken + 1) turned (enters rs left r es' 0 (taken + 1) turned g e ev eb refl (omega (arith, g.both))) ei ea

    pub turns : (rs left : List Row) (r : Row) (es' : List Entry) (i at' v : ℕ) (c : Refusal) → Going n from all start rs es out at taken turned → rs ≡ r ∷ left → i ≡ at → at' ≡ at + 1 → v ≡ code c → code c ≡ outcome_of (row_taken day m s es r) → es' ≡ after_row day m s es r → Going n from all start left es' (set out i v) at' taken (turned + 1)
    turns rs left r es' i at' v c g e ei ea ev ec eb = along left es' out v at i at' taken (turned + 1) (enters rs left r es' v taken (turned + 1) g e (ev ∙ ec) eb (omega (arith, ap {B = ℕ} (λ x. cond (eqb x 0) 1 0) ev, ap {B = ℕ} (λ b. cond b 1 0) (code_above c))) (omega (arith, g.both))) ei ea

  length_outcomes : (es : List Entry) (rs : List Row) → length (outcomes day m s es rs) ≡ length rs
  length_outcomes es [] = refl
  length_outcomes es (r ∷ rs) = ap suc (length_outcomes (after_row day m s es r) rs)

  module _ {n : ℕ} {from : List Entry} {all : List Row} {start : List ℕ} {left : List Row} {es : List Entry} {out : List ℕ} {at taken turned : ℕ} (g : Going n from all start left es out at taken turned) (e : left ≡ []) where
    done : Going n from all start [] es out at taken turned
    done = subst (λ x. Going n from all start x es out at taken turned) e g

    pub counts_out : record { taken = taken; turned_away = turned } ≡ counted (outcomes day m s from all)
    counts_out =
        let t : taken ≡ zeros (outcomes day m s from all) = omega (arith, done.count) in
        let k : turned ≡ length (outcomes day m s from all) - zeros (outcomes day m s from all) = omega (arith, t, done.both, done.place, length_outcomes from all) in
        λ i. record { taken = t i; turned_away = k i }
