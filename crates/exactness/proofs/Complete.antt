-- The encoding of a well-formed file is accepted, as that file.
use Rattle.std.proofs.Common.{◌≡◌, ℕ, zero, suc, ◌+◌, ◌*◌, ◌<◌, ◌≤◌, true, cond, ◌&&◌, eqb, leb, List, [], ◌∷◌, ◌++◌, length, take, Some, None, Ok, Err, Option, Result, sym, refl, ap, ◌∙◌, subst, append_assoc, append-nil, arith, length-append, eq-eqb, le-ltb}
use borrow.Author.Tests.{lt-leb}
use Rattle.std.proofs.lemmas.List.{take_at, drop_at}
use Rattle.wire.specs.Bytes.{in_bytes}
use Rattle.wire.specs.Records.{first_record, at_place, behind_head, piece, width, tag_byte, tag_of}
use Rattle.wire.specs.Values.{raw_header_in, batch_head_in, presentation_in, return_in, closing_in}
use Rattle.terms.specs.Numbers.{batch_kind}
use Rattle.wire.specs.Rows.{is_of, no_totals, plus, presentations, same_totals, tally}
use Rattle.memberfile.specs.Headers.{header_of, raw_of}
use Rattle.memberfile.specs.Stages.{begun, fresh, goes, goes_to, opened_by, row_in, shut_batch, step_placed, stepped, took}
use Rattle.memberfile.specs.Layout.{BatchValue, FileValue, FitsRow, FitsTotals, Formed, FormedBatches, FormedRows, LawfulHeader, all_rows, enc_batch_end, enc_batch_head, enc_batches, enc_closing, enc_file_end, enc_file_head, enc_header, enc_presentation, enc_record, enc_return, enc_row, enc_rows, encode}
use Rattle.memberfile.specs.Judge.{gone_by, gone, turned_by, Log, blank, logged, ending, judge, run, Verdict}
use Rattle.memberfile.specs.declared.header.Header.{Header}
use Rattle.wire.specs.declared.values.BatchHead.{BatchHead}
use Rattle.wire.specs.declared.values.Totals.{Totals}
use Rattle.wire.specs.declared.values.Closing.{Closing}
use Rattle.wire.specs.declared.values.Presentation.{Presentation as PresentationV}
use Rattle.wire.specs.declared.values.Return.{Return as ReturnV}
use Rattle.wire.specs.declared.record.Tag.{Tag}
use Rattle.wire.specs.declared.record.Tag.TheVariants.{FileHeader, BatchHeader, Presentation as t_presentation, Return as t_return, BatchEnd, FileEnd}
use Rattle.terms.specs.declared.refusal.Refusal.{Refusal}
use Rattle.terms.specs.declared.refusal.Refusal.TheVariants.{WrongKind, BatchNumber, TotalDiffers}
use Rattle.wire.specs.declared.row.Row.{Row}
use Rattle.wire.specs.declared.row.Row.TheVariants.{Presentation, Return}
use Rattle.memberfile.specs.declared.stage.Sofar.{Sofar}
use Rattle.memberfile.specs.declared.stage.OpenBatch.{OpenBatch}
use Rattle.memberfile.specs.declared.stage.Stage.{Stage}
use Rattle.memberfile.specs.declared.stage.Stage.TheVariants.{BeforeHeader, Between, InBatch, AfterEnd}
use Rattle.memberfile.specs.declared.stage.Moved.{Moved}
use Rattle.wire.proofs.Codes.{number_in_bytes}
use Rattle.exactness.proofs.Headers.{fits_header, header_back}
use Rattle.memberfile.proofs.Turns.{run_on, judge_short}

-- values that are written are read again

raw_back : (h : Header) → LawfulHeader h → raw_header_in (enc_header (raw_of h)) ≡ raw_of h
raw_back h l = let f = fits_header h l in λ i. record { kind = (raw_of h).kind; currency = (raw_of h).currency; cycle = (raw_of h).cycle; origin = number_in_bytes 2 h.origin f.0 i; date = number_in_bytes 4 h.date f.1 i; number = h.number }

pub presented_back : (p : PresentationV) → FitsRow (Presentation p) → presentation_in (enc_presentation p) ≡ p
presented_back p f = λ i. record { record_type = p.record_type; other = number_in_bytes 2 p.other f.1 i; reference = number_in_bytes 4 p.reference f.2 i; amount = number_in_bytes 4 p.amount f.3 i; commission = number_in_bytes 2 p.commission f.4 i }

pub returned_back : (p : ReturnV) → FitsRow (Return p) → return_in (enc_return p) ≡ p
returned_back p f = λ i. record { originator = number_in_bytes 2 p.originator f.0 i; reference = number_in_bytes 4 p.reference f.1 i; amount = number_in_bytes 4 p.amount f.2 i; commission = number_in_bytes 2 p.commission f.3 i; cause = p.cause }

abbrev closing_by : ℕ → Totals → Closing
closing_by n t = record { number = n; totals = t }

pub closing_back : (n : ℕ) (t : Totals) → n < 65536 → FitsTotals t → closing_in (enc_closing n t) ≡ closing_by n t
closing_back n t l f = λ i. record { number = number_in_bytes 2 n l i; totals = record { count = number_in_bytes 2 t.count f.0 i; amounts = number_in_bytes 8 t.amounts f.1 i; commissions = number_in_bytes 8 t.commissions f.2 i; parties = number_in_bytes 4 t.parties f.3 i } }

abbrev head_by : ℕ → ℕ → BatchHead
head_by k n = record { kind = k; number = n }

pub head_back : (k n : ℕ) → n < 65536 → batch_head_in (k ∷ in_bytes 2 n) ≡ head_by k n
head_back k n l = λ i. record { kind = k; number = number_in_bytes 2 n l i }

pub same_refl : (t : Totals) → same_totals t t ≡ true
same_refl t = rw (eq-eqb t.count t.count refl, eq-eqb t.amounts t.amounts refl, eq-eqb t.commissions t.commissions refl, eq-eqb t.parties t.parties refl)

-- the steps

pub open_step : (h : Header) → LawfulHeader h → stepped BeforeHeader (piece FileHeader (enc_header (raw_of h))) ≡ Ok (goes_to (Between (begun h)))
open_step h l = ap opened_by (ap header_of (raw_back h l) ∙ header_back h l)

pub head_step : (s : Sofar) (n : ℕ) → s.last < n → n < 65536 → stepped (Between s) (piece BatchHeader (batch_kind s.header.kind ∷ in_bytes 2 n)) ≡ Ok (goes_to (InBatch s (fresh n)))
head_step s n above l =
    ap (λ x. cond (eqb x.kind (batch_kind s.header.kind)) (cond (leb x.number s.last) (Err BatchNumber) (goes (InBatch s (fresh x.number)))) (Err WrongKind)) (head_back (batch_kind s.header.kind) n l) ∙ ap (λ b. cond b (cond (leb n s.last) (Err BatchNumber) (goes (InBatch s (fresh n)))) (Err WrongKind)) (eq-eqb (batch_kind s.header.kind) (batch_kind s.header.kind) refl) ∙ ap (λ b. cond b (Err BatchNumber) (goes (InBatch s (fresh n)))) (lt-leb n s.last above)

abbrev took_if : Sofar → OpenBatch → Row → Result Moved Refusal
took_if s b r = cond (is_of s.header.kind r) (Ok (took s b r)) (Err WrongKind)

presented_step : (s : Sofar) (b : OpenBatch) (p : PresentationV) → FitsRow (Presentation p) → is_of s.header.kind (Presentation p) ≡ true → stepped (InBatch s b) (piece t_presentation (enc_presentation p)) ≡ Ok (took s b (Presentation p))
presented_step s b p f k = ap (λ x. took_if s b (Presentation x)) (presented_back p f) ∙ ap (λ c. cond c (Ok (took s b (Presentation p))) (Err WrongKind)) k

returned_step : (s : Sofar) (b : OpenBatch) (p : ReturnV) → FitsRow (Return p) → is_of s.header.kind (Return p) ≡ true → stepped (InBatch s b) (piece t_return (enc_return p)) ≡ Ok (took s b (Return p))
returned_step s b p f k = ap (λ x. took_if s b (Return x)) (returned_back p f) ∙ ap (λ c. cond c (Ok (took s b (Return p))) (Err WrongKind)) k

shut_step : (s : Sofar) (b : OpenBatch) → b.number < 65536 → FitsTotals b.totals → stepped (InBatch s b) (piece BatchEnd (enc_closing b.number b.totals)) ≡ Ok (goes_to (Between (shut_batch s b)))
shut_step s b l f =
    ap (λ x. cond (eqb x.number b.number) (cond (same_totals x.totals b.totals) (goes (Between (shut_batch s b))) (Err TotalDiffers)) (Err BatchNumber)) (closing_back b.number b.totals l f) ∙ ap (λ c. cond c (cond (same_totals b.totals b.totals) (goes (Between (shut_batch s b))) (Err TotalDiffers)) (Err BatchNumber)) (eq-eqb b.number b.number refl) ∙ ap (λ c. cond c (goes (Between (shut_batch s b))) (Err TotalDiffers)) (same_refl b.totals)

pub end_step : (s : Sofar) → s.batches < 65536 → FitsTotals s.totals → stepped (Between s) (piece FileEnd (enc_closing s.batches s.totals)) ≡ Ok (goes_to (AfterEnd s))
end_step s l f =
    ap (λ x. cond (eqb x.number s.batches && same_totals x.totals s.totals) (goes (AfterEnd s)) (Err TotalDiffers)) (closing_back s.batches s.totals l f) ∙ ap (λ c. cond (c && same_totals s.totals s.totals) (goes (AfterEnd s)) (Err TotalDiffers)) (eq-eqb s.batches s.batches refl) ∙ ap (λ c. cond c (goes (AfterEnd s)) (Err TotalDiffers)) (same_refl s.totals)

-- from stage s with log g the bytes get the verdict, which may look at the place where they end
abbrev pub Gets : Stage → Log → List ℕ → (ℕ → Verdict) → Type 0
Gets s g bs V = (n k : ℕ) → length bs < k → run k s g n bs ≡ V (n + length bs)

tag_of_byte : (t : Tag) → tag_of (tag_byte t) ≡ Some t
tag_of_byte FileHeader = refl
tag_of_byte BatchHeader = refl
tag_of_byte t_presentation = refl
tag_of_byte t_return = refl
tag_of_byte BatchEnd = refl
tag_of_byte FileEnd = refl

behind_head_ok : (o : Option Tag) (t : Tag) (n : ℕ) (vs : List ℕ) → o ≡ Some t → n ≡ width t → n ≤ length vs → behind_head o n vs ≡ Ok (piece t (take n vs))
behind_head_ok o t n vs e m l = rw (e, eq-eqb n (width t) m, le-ltb (length vs) n l)

pub first_written : (t : Tag) (v rest : List ℕ) → length v ≡ width t → first_record (enc_record t v ++ rest) ≡ Ok (piece t v)
first_written t v rest l = behind_head_ok (tag_of (tag_byte t)) t (0 * 256 + width t) (v ++ rest) (tag_of_byte t) (omega arith) (omega (arith, length-append v rest)) ∙ ap (λ x. Ok (piece t x)) (take_at v rest (0 * 256 + width t) (omega arith))

pub step_on : (s : Stage) (g : Log) (t : Tag) (v rest : List ℕ) (m : Moved) (V : ℕ → Verdict) → length v ≡ width t → ending s ≡ None → stepped s (piece t v) ≡ Ok m → Gets m.stage (logged s m g) rest V → Gets s g (enc_record t v ++ rest) V
step_on s g t v rest m V l e st next n zero h = absurd (omega arith)
step_on s g t v rest m V l e st next n (suc k) h =
    let bs : List ℕ = enc_record t v ++ rest in
    let fr : first_record bs ≡ Ok (piece t v) = first_written t v rest l in
    let far : gone bs ≡ 3 + length v = ap gone_by fr in
    let far_end : n + gone bs + length rest ≡ n + length bs = omega (arith, length-append v rest) in
    run_on k s g n bs m e (ap (λ r. turned_by n s (at_place n r)) fr ∙ ap (step_placed n) st) ∙ ap (λ x. run k m.stage (logged s m g) (n + gone bs) x) (drop_at (enc_record t v) rest (gone bs) (omega arith)) ∙ next (n + gone bs) k (omega (arith, length-append v rest)) ∙ ap V far_end

pub gets_at : (s : Stage) (g : Log) (V : ℕ → Verdict) (xs ys : List ℕ) → xs ≡ ys → Gets s g xs V → Gets s g ys V
gets_at s g V xs ys e h = subst (λ l. Gets s g l V) e h

abbrev pub log_of : List BatchValue → List Row → Log
log_of c o = record { closed = c; held = o }

row_on : (s : Sofar) (b : OpenBatch) (c : List BatchValue) (o : List Row) (r : Row) (rest : List ℕ) (V : ℕ → Verdict) → FitsRow r → is_of s.header.kind r ≡ true → Gets (row_in s b r) (log_of c (o ++ (r ∷ []))) rest V → Gets (InBatch s b) (log_of c o) (enc_row r ++ rest) V
row_on s b c o (Presentation p) rest V f k next = step_on (InBatch s b) (log_of c o) t_presentation (enc_presentation p) rest (took s b (Presentation p)) V refl refl (presented_step s b p f k) next
row_on s b c o (Return p) rest V f k next = step_on (InBatch s b) (log_of c o) t_return (enc_return p) rest (took s b (Return p)) V refl refl (returned_step s b p f k) next

-- n and the presentations among rows
abbrev pub count_from : ℕ → List Row → ℕ
count_from n [] = n
count_from n (r ∷ rs) = count_from (n + presentations r) rs

-- what is known of the file after rows more
abbrev pub with_rows : Sofar → List Row → Sofar
with_rows s rs = record { header = s.header; batches = s.batches; last = s.last; presentations = count_from s.presentations rs; totals = tally s.totals rs }

abbrev pub batch_with : OpenBatch → Totals → OpenBatch
batch_with b t = record { number = b.number; totals = t }

pub rows_on : (rs : List Row) (s : Sofar) (b : OpenBatch) (c : List BatchValue) (o : List Row) (rest : List ℕ) (V : ℕ → Verdict) → FormedRows s.header.kind rs → Gets (InBatch (with_rows s rs) (batch_with b (tally b.totals rs))) (log_of c (o ++ rs)) rest V → Gets (InBatch s b) (log_of c o) (enc_rows rs ++ rest) V
rows_on [] s b c o rest V f next = subst (λ x. Gets (InBatch s b) (log_of c x) rest V) (append-nil o) next
rows_on (r ∷ rs) s b c o rest V f next =
    gets_at (InBatch s b) (log_of c o) V (enc_row r ++ (enc_rows rs ++ rest)) ((enc_row r ++ enc_rows rs) ++ rest) (sym (append_assoc (enc_row r) (enc_rows rs) rest))
    (row_on s b c o r (enc_rows rs ++ rest) V f.0 f.1
    (rows_on rs (with_rows s (r ∷ [])) (batch_with b (plus b.totals r)) c (o ++ (r ∷ [])) rest V f.2
    (subst (λ x. Gets (InBatch (with_rows s (r ∷ rs)) (batch_with b (tally b.totals (r ∷ rs)))) (log_of c x) rest V) (sym (append_assoc o (r ∷ []) rs)) next)))

-- what the check has behind batches
abbrev pub through : Sofar → List BatchValue → Sofar
through s [] = s
through s (b ∷ bs) = through (record { header = s.header; batches = s.batches + 1; last = b.number; presentations = count_from s.presentations b.rows; totals = tally s.totals b.rows }) bs

batch_on : (b : BatchValue) (s : Sofar) (c : List BatchValue) (rest : List ℕ) (V : ℕ → Verdict) → s.last < b.number → b.number < 65536 → FormedRows s.header.kind b.rows → FitsTotals (tally no_totals b.rows) → Gets (Between (through s (b ∷ []))) (log_of (c ++ (b ∷ [])) []) rest V → Gets (Between s) (log_of c []) (enc_batch_head s.header b.number ++ (enc_rows b.rows ++ (enc_batch_end b.number b.rows ++ rest))) V
batch_on b s c rest V above l f t next =
    step_on (Between s) (log_of c []) BatchHeader (batch_kind s.header.kind ∷ in_bytes 2 b.number) _ _ V refl refl (head_step s b.number above l)
    (rows_on b.rows s (fresh b.number) c [] (enc_batch_end b.number b.rows ++ rest) V f
    (step_on (InBatch (with_rows s b.rows) (batch_with (fresh b.number) (tally no_totals b.rows))) (log_of c b.rows) BatchEnd (enc_closing b.number (tally no_totals b.rows)) rest _ V refl refl (shut_step (with_rows s b.rows) (batch_with (fresh b.number) (tally no_totals b.rows)) l t) next))

pub batches_on : (bs : List BatchValue) (s : Sofar) (c : List BatchValue) (rest : List ℕ) (V : ℕ → Verdict) → FormedBatches s.header.kind s.last bs → Gets (Between (through s bs)) (log_of (c ++ bs) []) rest V → Gets (Between s) (log_of c []) (enc_batches s.header bs ++ rest) V
batches_on [] s c rest V f next = subst (λ x. Gets (Between s) (log_of x []) rest V) (append-nil c) next
batches_on (b ∷ bs) s c rest V f next =
    gets_at (Between s) (log_of c []) V _ _ (ap (λ l. enc_batch_head s.header b.number ++ l) (ap (λ l. enc_rows b.rows ++ l) (sym (append_assoc (enc_batch_end b.number b.rows) (enc_batches s.header bs) rest)) ∙ sym (append_assoc (enc_rows b.rows) (enc_batch_end b.number b.rows ++ enc_batches s.header bs) rest)))
    (batch_on b s c (enc_batches s.header bs ++ rest) V f.0 f.1 f.2 f.3
    (batches_on bs (through s (b ∷ [])) (c ++ (b ∷ [])) rest V f.4
    (subst (λ x. Gets (Between (through s (b ∷ bs))) (log_of x []) rest V) (sym (append_assoc c (b ∷ []) bs)) next)))

pub tally-++ : (t : Totals) (xs ys : List Row) → tally t (xs ++ ys) ≡ tally (tally t xs) ys
tally-++ t [] ys = refl
tally-++ t (x ∷ xs) ys = tally-++ (plus t x) xs ys

pub through_header : (s : Sofar) (bs : List BatchValue) → (through s bs).header ≡ s.header
through_header s [] = refl
through_header s (b ∷ bs) = through_header (through s (b ∷ [])) bs

pub through_batches : (s : Sofar) (bs : List BatchValue) → (through s bs).batches ≡ s.batches + length bs
through_batches s [] = omega arith
through_batches s (b ∷ bs) = through_batches (through s (b ∷ [])) bs ∙ omega arith

pub through_totals : (s : Sofar) (bs : List BatchValue) → (through s bs).totals ≡ tally s.totals (all_rows bs)
through_totals s [] = refl
through_totals s (b ∷ bs) = through_totals (through s (b ∷ [])) bs ∙ sym (tally-++ s.totals b.rows (all_rows bs))

-- through the file end, with what follows on it
pub file_end_on : (f : FileValue) (s : Sofar) (rest : List ℕ) (V : ℕ → Verdict) → s.batches ≡ length f.batches → s.totals ≡ tally no_totals (all_rows f.batches) → length f.batches < 65536 → FitsTotals (tally no_totals (all_rows f.batches)) → Gets (AfterEnd s) (log_of f.batches []) rest V → Gets (Between s) (log_of f.batches []) (enc_file_end f.batches ++ rest) V
file_end_on f s rest V eb et few fit next =
    let write : enc_closing s.batches s.totals ≡ enc_closing (length f.batches) (tally no_totals (all_rows f.batches)) = λ i. enc_closing (eb i) (et i) in
    gets_at (Between s) (log_of f.batches []) V _ _ (ap (λ x. enc_record FileEnd x ++ rest) write)
    (step_on (Between s) (log_of f.batches []) FileEnd (enc_closing s.batches s.totals) rest (goes_to (AfterEnd s)) V refl refl (end_step s (omega arith) (subst FitsTotals (sym et) fit)) next)

-- through a header and batches
pub batches_gets : (h : Header) (bs : List BatchValue) (rest : List ℕ) (V : ℕ → Verdict) → LawfulHeader h → FormedBatches h.kind 0 bs → Gets (Between (through (begun h) bs)) (log_of bs []) rest V → Gets BeforeHeader blank (enc_file_head h ++ (enc_batches h bs ++ rest)) V
batches_gets h bs rest V law formed next = step_on BeforeHeader blank FileHeader (enc_header (raw_of h)) (enc_batches h bs ++ rest) (goes_to (Between (begun h))) V refl refl (open_step h law) (batches_on bs (begun h) [] rest V formed next)

-- through a whole file
pub whole_gets : (f : FileValue) (rest : List ℕ) (V : ℕ → Verdict) → LawfulHeader f.header → FormedBatches f.header.kind 0 f.batches → length f.batches < 65536 → FitsTotals (tally no_totals (all_rows f.batches)) → Gets (AfterEnd (through (begun f.header) f.batches)) (log_of f.batches []) rest V → Gets BeforeHeader blank (encode f ++ rest) V
whole_gets f rest V law formed few tot next =
    let h : Header = f.header in
    gets_at BeforeHeader blank V _ _ (ap (λ x. enc_file_head h ++ x) (sym (append_assoc (enc_batches h f.batches) (enc_file_end f.batches) rest)))
    (batches_gets h f.batches (enc_file_end f.batches ++ rest) V law formed
    (file_end_on f (through (begun h) f.batches) rest V (through_batches (begun h) f.batches ∙ omega arith) (through_totals (begun h) f.batches) few tot next))

end_gets : (f : FileValue) (s : Sofar) → s.header ≡ f.header → Gets (AfterEnd s) (log_of f.batches []) [] (λ n. Ok f)
end_gets f s e n zero h = absurd (omega arith)
end_gets f s e n (suc k) h = ap (λ x. Ok (record { header = x; batches = f.batches })) e

pub accepts : (f : FileValue) → Formed f → judge (encode f) ≡ Ok f
accepts f w =
    judge_short (encode f) w.short ∙ gets_at BeforeHeader blank (λ n. Ok f) _ _ (append-nil (encode f)) (whole_gets f [] (λ n. Ok f) w.header w.batches w.few w.totals (end_gets f _ (through_header (begun f.header) f.batches))) 0 (suc (length (encode f))) (omega arith)

pub same_file : (f g : FileValue) → Formed f → Formed g → encode f ≡ encode g → f ≡ g
same_file f g wf wg e = let a = accepts f wf in let b = accepts g wg in let c = ap judge e in cc
