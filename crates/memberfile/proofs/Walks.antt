-- The walk over the rows, and that it meets a file's rows.
use Rattle.std.proofs.Common.{◌≡◌, ℕ, zero, suc, ◌+◌, ◌-◌, ◌<◌, ◌≤◌, List, [], ◌∷◌, ◌++◌, length, take, drop, None, Ok, Err, Option, Result, sym, refl, ap, ◌∙◌, ⊎_elim, append_assoc, append-nil, arith, length-drop}
use Rattle.std.proofs.str.Laws.{order}
use Rattle.std.specs.Option.{option_to_list}
use Rattle.wire.specs.Records.{Piece, first_record}
use Rattle.memberfile.specs.Layout.{FileValue, all_rows}
use Rattle.memberfile.specs.Judge.{gone, gone_by, turned, Log, blank, logged, ended, onward, judge, run, Verdict}
use Rattle.memberfile.specs.Walk.{row_by, row_of, walked_by, walked, rows_in}
use Rattle.memberfile.specs.declared.header.Header.{Header}
use Rattle.terms.specs.declared.refusal.Refusal.{Refusal}
use Rattle.wire.specs.declared.record.Tag.{Tag}
use Rattle.wire.specs.declared.record.Tag.TheVariants.{FileHeader, BatchHeader, Presentation as t_presentation, Return as t_return, BatchEnd, FileEnd}
use Rattle.wire.specs.declared.row.Row.{Row}
use Rattle.memberfile.specs.declared.stage.Moved.{Moved}
use Rattle.memberfile.specs.declared.stage.Stage.{Stage}
use Rattle.memberfile.specs.declared.stage.Stage.TheVariants.{BeforeHeader, Between, InBatch, AfterEnd}
use Rattle.terms.specs.declared.fault.Fault.{Fault}
use Rattle.wire.proofs.Numbers.{rest_is}
use Rattle.memberfile.proofs.Steps.{Steps, steps}
use Rattle.memberfile.proofs.Turns.{turned_ok, rows_of, rows_logged, Shut, shut_on, judge_long, judge_short}

-- a record takes bytes off
pub less : (bs : List ℕ) (p : Piece) → first_record bs ≡ Ok p → length (drop (gone bs) bs) < length bs
less [] p e = absurd (cc)
less (b ∷ bs) p e = omega (arith, ap gone_by e, length-drop (gone (b ∷ bs)) (b ∷ bs))

same_by : (r : Result Piece Refusal) (xs ys : List Row) → ((p : Piece) → r ≡ Ok p → xs ≡ ys) → walked_by r xs ≡ walked_by r ys
same_by (Ok p) xs ys h = ap (λ l. option_to_list (row_of p) ++ l) (h p refl)
same_by (Err c) xs ys h = refl

walked_nil : (k : ℕ) → walked k [] ≡ []
walked_nil zero = refl
walked_nil (suc k) = refl

-- how many records it may take does not matter, once they are enough
walked_enough : (j k : ℕ) (bs : List ℕ) → length bs ≤ j → length bs ≤ k → walked j bs ≡ walked k bs
walked_enough j k [] a b = walked_nil j ∙ sym (walked_nil k)
walked_enough zero k (x ∷ bs) a b = absurd (omega arith)
walked_enough (suc j) zero (x ∷ bs) a b = absurd (omega arith)
walked_enough (suc j) (suc k) (x ∷ bs) a b =
    same_by (first_record (x ∷ bs)) _ _ (λ p e. let l : length (drop (gone (x ∷ bs)) (x ∷ bs)) < length (x ∷ bs) = less (x ∷ bs) p e in walked_enough j k (drop (gone (x ∷ bs)) (x ∷ bs)) (omega arith) (omega arith))

pub rows_in_lem : (k : ℕ) (bs : List ℕ) → length bs ≤ k → rows_in bs ≡ walked k bs
unfolding rows_in
rows_in_lem k bs h = walked_enough (length bs) k bs (omega arith) h

pub rows_on : (bs : List ℕ) (p : Piece) → first_record bs ≡ Ok p → rows_in bs ≡ option_to_list (row_of p) ++ rows_in (drop (3 + length p.value) bs)
rows_on bs p e =
    let l : length (drop (gone bs) bs) < length bs = less bs p e in
    rows_in_lem (suc (length bs)) bs (omega arith) ∙ ap (λ r. walked_by r (walked (length bs) (drop (gone bs) bs))) e ∙ ap (λ x. option_to_list (row_of p) ++ x) (sym (rows_in_lem (length bs) (drop (gone bs) bs) (omega arith)) ∙ ap (λ k. rows_in (drop k bs)) (ap gone_by e))

pub rows_off : (bs : List ℕ) (c : Refusal) → first_record bs ≡ Err c → rows_in bs ≡ []
rows_off bs c e = rows_in_lem (suc (length bs)) bs (omega arith) ∙ ap (λ r. walked_by r (walked (length bs) (drop (gone bs) bs))) e

-- a step that is taken takes the record's row
pub row_by_lem : (s : Stage) (t : Tag) (v : List ℕ) (m : Moved) → Steps s t v m → row_by t v ≡ m.row
row_by_lem BeforeHeader FileHeader v m e = sym (ap (λ x. x.row) e.2)
row_by_lem (Between s) BatchHeader v m e = sym (ap (λ x. x.row) e.2)
row_by_lem (Between s) FileEnd v m e = sym (ap (λ x. x.row) e.1)
row_by_lem (InBatch s b) t_presentation v m e = sym (ap (λ x. x.row) e.1)
row_by_lem (InBatch s b) t_return v m e = sym (ap (λ x. x.row) e.1)
row_by_lem (InBatch s b) BatchEnd v m e = sym (ap (λ x. x.row) e.2)
row_by_lem BeforeHeader BatchHeader v m e = absurd e
row_by_lem BeforeHeader t_presentation v m e = absurd e
row_by_lem BeforeHeader t_return v m e = absurd e
row_by_lem BeforeHeader BatchEnd v m e = absurd e
row_by_lem BeforeHeader FileEnd v m e = absurd e
row_by_lem (Between s) FileHeader v m e = absurd e
row_by_lem (Between s) t_presentation v m e = absurd e
row_by_lem (Between s) t_return v m e = absurd e
row_by_lem (Between s) BatchEnd v m e = absurd e
row_by_lem (InBatch s b) FileHeader v m e = absurd e
row_by_lem (InBatch s b) BatchHeader v m e = absurd e
row_by_lem (InBatch s b) FileEnd v m e = absurd e
row_by_lem (AfterEnd a) t v m e = absurd e

-- one step of a run to its end
stepped_on : (k n : ℕ) (s : Stage) (g : Log) (bs : List ℕ) (m : Moved) (rs : List Row) → turned n s bs ≡ Ok m → rows_of (logged s m g) ++ walked k (drop (gone bs) bs) ≡ rs → rows_of g ++ walked (suc k) bs ≡ rs
stepped_on k n s g bs m rs t e =
    let p = turned_ok n s bs m t in
    let left : List Row = walked k (drop (gone bs) bs) in
    let row : row_of p.0 ≡ m.row = row_by_lem s p.0.tag p.0.value m (steps s p.0.tag p.0.value m p.2) in
    ap (λ r. rows_of g ++ walked_by r left) p.1 ∙ ap (λ o. rows_of g ++ (option_to_list o ++ left)) row ∙ sym (append_assoc (rows_of g) (option_to_list m.row) left) ∙ ap (λ l. l ++ left) (sym (rows_logged s m g)) ∙ e

onward_ok : (q : Result Moved Fault) (end : Header → Verdict) (go : Moved → Verdict) (f : FileValue) → onward None q end go ≡ Ok f → (m : Moved) × (q ≡ Ok m) × (go m ≡ Ok f)
onward_ok (Ok m) end go f e = (m, refl, e)
onward_ok (Err x) end go f e = absurd (cc)

ended_rows : (h : Header) (g : Log) (n k : ℕ) (bs : List ℕ) (f : FileValue) → g.held ≡ [] → ended h g n bs ≡ Ok f → rows_of g ++ walked k bs ≡ all_rows f.batches
ended_rows h g n k [] f shut e =
    let same : record { header = h; batches = g.closed } ≡ f = cc in
    ap (λ l. rows_of g ++ l) (walked_nil k) ∙ append-nil (rows_of g) ∙ ap (λ l. all_rows g.closed ++ l) shut ∙ append-nil (all_rows g.closed) ∙ ap (λ x. all_rows x.batches) same
ended_rows h g n k (b ∷ bs) f shut e = absurd (cc)

run_rows : (k : ℕ) (s : Stage) (g : Log) (n : ℕ) (bs : List ℕ) (f : FileValue) → Shut s g → run k s g n bs ≡ Ok f → rows_of g ++ walked k bs ≡ all_rows f.batches
run_rows zero s g n bs f h e = absurd (cc)
run_rows (suc k) BeforeHeader g n bs f h e =
    let q = onward_ok (turned n BeforeHeader bs) _ _ f e in
    stepped_on k n BeforeHeader g bs q.0 _ q.1 (run_rows k q.0.stage (logged BeforeHeader q.0 g) (n + gone bs) (drop (gone bs) bs) f (shut_on n BeforeHeader bs q.0 g q.1 h) q.2)
run_rows (suc k) (Between a) g n bs f h e =
    let q = onward_ok (turned n (Between a) bs) _ _ f e in
    stepped_on k n (Between a) g bs q.0 _ q.1 (run_rows k q.0.stage (logged (Between a) q.0 g) (n + gone bs) (drop (gone bs) bs) f (shut_on n (Between a) bs q.0 g q.1 h) q.2)
run_rows (suc k) (InBatch a b) g n bs f h e =
    let q = onward_ok (turned n (InBatch a b) bs) _ _ f e in
    stepped_on k n (InBatch a b) g bs q.0 _ q.1 (run_rows k q.0.stage (logged (InBatch a b) q.0 g) (n + gone bs) (drop (gone bs) bs) f (shut_on n (InBatch a b) bs q.0 g q.1 h) q.2)
run_rows (suc k) (AfterEnd a) g n bs f h e = ended_rows a.header g n (suc k) bs f h.0 e

-- the walk meets the rows of the file that the bytes say
pub rows_said : (bs : List ℕ) (f : FileValue) → judge bs ≡ Ok f → rows_in bs ≡ all_rows f.batches
rows_said bs f e =
    ⊎_elim
    (λ long. let x = judge_long bs long in absurd (cc))
    (λ short. rows_in_lem (suc (length bs)) bs (omega arith) ∙ run_rows (suc (length bs)) BeforeHeader blank 0 bs f refl (sym (judge_short bs short) ∙ e))
    (order 65535 (length bs))

-- one turn of the walk
pub walk_on : (bs : List ℕ) (p : Piece) (n : ℕ) (o : Option Row) → Ok p ≡ first_record bs → n ≡ 3 + length p.value → o ≡ row_of p → rows_in bs ≡ option_to_list o ++ rows_in (take (length bs - n) (drop n bs))
walk_on bs p n o e l r = rows_on bs p (sym e) ∙ (λ i. option_to_list (sym r i) ++ rows_in ((ap (λ k. drop k bs) (sym l) ∙ sym (rest_is n bs)) i))
