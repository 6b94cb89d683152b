-- What is accepted is the encoding of a well-formed file.
use Rattle.std.proofs.Common.{◌≡◌, ℕ, zero, suc, ◌+◌, ◌<◌, ◌≤◌, true, List, [], ◌∷◌, ◌++◌, length, drop, Some, None, Ok, Err, Result, sym, refl, ap, ◌∙◌, subst, ⊎_elim, append_assoc, append-nil, arith, length-append, eqb-true, leb-false}
use Rattle.std.proofs.str.Laws.{order}
use Rattle.std.proofs.lemmas.Bool.{and_parts}
use Rattle.wire.specs.Bytes.{in_bytes, Octets}
use Rattle.wire.specs.Records.{width}
use Rattle.wire.specs.Values.{raw_header_in, batch_head_in, presentation_in, return_in, closing_in}
use Rattle.terms.specs.Numbers.{batch_kind}
use Rattle.terms.specs.declared.file_kind.FileKind.{FileKind}
use Rattle.wire.specs.Rows.{is_of, no_totals, plus, same_totals, tally}
use Rattle.memberfile.specs.Headers.{header_of}
use Rattle.memberfile.specs.Stages.{begun, fresh, goes_to, row_in, shut_batch, took}
use Rattle.memberfile.specs.Layout.{BatchValue, FileValue, FitsRow, FitsTotals, Formed, FormedBatches, FormedRows, LawfulHeader, all_rows, enc_batch_end, enc_batch_head, enc_batches, enc_closing, enc_file_end, enc_file_head, enc_header, enc_record, enc_row, enc_rows, encode}
use Rattle.exactness.specs.Refusal.{last_of, opening}
use Rattle.memberfile.specs.Judge.{gone, gone_by, turned, Log, blank, logged, ended, onward, judge, run, Verdict}
use Rattle.memberfile.specs.declared.header.Header.{Header}
use Rattle.wire.specs.declared.values.Totals.{Totals}
use Rattle.wire.specs.declared.record.Tag.{Tag}
use Rattle.wire.specs.declared.record.Tag.TheVariants.{FileHeader, BatchHeader, Presentation as t_presentation, Return as t_return, BatchEnd, FileEnd}
use Rattle.wire.specs.declared.row.Row.{Row}
use Rattle.wire.specs.declared.row.Row.TheVariants.{Presentation, Return}
use Rattle.memberfile.specs.declared.stage.Sofar.{Sofar}
use Rattle.memberfile.specs.declared.stage.OpenBatch.{OpenBatch}
use Rattle.memberfile.specs.declared.stage.Stage.{Stage}
use Rattle.memberfile.specs.declared.stage.Stage.TheVariants.{BeforeHeader, Between, InBatch, AfterEnd}
use Rattle.memberfile.specs.declared.stage.Moved.{Moved}
use Rattle.terms.specs.declared.fault.Fault.{Fault}
use Rattle.exactness.proofs.Complete.{tally-++}
use Rattle.exactness.proofs.Headers.{header_said}
use Rattle.exactness.proofs.Forth.{header_forth, presented_forth, presented_fits, returned_forth, returned_fits, closing_forth, closing_fits, closing_number, head_forth, head_number, Read, read}
use Rattle.memberfile.proofs.Steps.{Steps, steps}
use Rattle.memberfile.proofs.Turns.{turned_ok, all_rows-++, judge_long, judge_short}

-- lists that grow at their end

in_bytes_rows-++ : (xs ys : List Row) → enc_rows (xs ++ ys) ≡ enc_rows xs ++ enc_rows ys
in_bytes_rows-++ [] ys = refl
in_bytes_rows-++ (x ∷ xs) ys = ap (λ l. enc_row x ++ l) (in_bytes_rows-++ xs ys) ∙ sym (append_assoc (enc_row x) (enc_rows xs) (enc_rows ys))

in_bytes_batches-++ : (h : Header) (xs ys : List BatchValue) → enc_batches h (xs ++ ys) ≡ enc_batches h xs ++ enc_batches h ys
in_bytes_batches-++ h [] ys = refl
in_bytes_batches-++ h (x ∷ xs) ys =
    ap (λ l. enc_batch_head h x.number ++ (enc_rows x.rows ++ (enc_batch_end x.number x.rows ++ l))) (in_bytes_batches-++ h xs ys) ∙ sym (append_assoc (enc_batch_head h x.number) (enc_rows x.rows ++ (enc_batch_end x.number x.rows ++ enc_batches h xs)) (enc_batches h ys) ∙ ap (λ l. enc_batch_head h x.number ++ l) (append_assoc (enc_rows x.rows) (enc_batch_end x.number x.rows ++ enc_batches h xs) (enc_batches h ys) ∙ ap (λ l. enc_rows x.rows ++ l) (append_assoc (enc_batch_end x.number x.rows) (enc_batches h xs) (enc_batches h ys))))

formed_rows_push : (k : FileKind) (rs : List Row) (r : Row) → FormedRows k rs → FitsRow r → is_of k r ≡ true → FormedRows k (rs ++ (r ∷ []))
formed_rows_push k [] r f fit e = (fit, e, tt)
formed_rows_push k (x ∷ rs) r f fit e = (f.0, f.1, formed_rows_push k rs r f.2 fit e)

last_push : (n : ℕ) (bs : List BatchValue) (b : BatchValue) → last_of n (bs ++ (b ∷ [])) ≡ b.number
last_push n [] b = refl
last_push n (x ∷ bs) b = last_push x.number bs b

formed_batches_push : (k : FileKind) (n : ℕ) (bs : List BatchValue) (b : BatchValue) → FormedBatches k n bs → last_of n bs < b.number → b.number < 65536 → FormedRows k b.rows → FitsTotals (tally no_totals b.rows) → FormedBatches k n (bs ++ (b ∷ []))
formed_batches_push k n [] b f above l rows t = (above, l, rows, t, tt)
formed_batches_push k n (x ∷ bs) b f above l rows t = (f.0, f.1, f.2, f.3, formed_batches_push k x.number bs b f.4 above l rows t)

-- what was read so far

pub record AtBetween (s : Sofar) (g : Log) (pre : List ℕ) : Type 0 where
  pub header : LawfulHeader s.header
  pub formed : FormedBatches s.header.kind 0 g.closed
  pub shut : g.held ≡ []
  pub count : s.batches ≡ length g.closed
  pub last : s.last ≡ last_of 0 g.closed
  pub totals : s.totals ≡ tally no_totals (all_rows g.closed)
  pub wrote : pre ≡ opening s.header g.closed

pub record AtBatch (s : Sofar) (b : OpenBatch) (g : Log) (pre : List ℕ) : Type 0 where
  pub header : LawfulHeader s.header
  pub formed : FormedBatches s.header.kind 0 g.closed
  pub count : s.batches ≡ length g.closed
  pub above : last_of 0 g.closed < b.number
  pub number : b.number < 65536
  pub rows : FormedRows s.header.kind g.held
  pub totals : s.totals ≡ tally no_totals (all_rows g.closed ++ g.held)
  pub batch : b.totals ≡ tally no_totals g.held
  pub wrote : pre ≡ opening s.header g.closed ++ (enc_batch_head s.header b.number ++ enc_rows g.held)

pub record AtEnd (h : Header) (g : Log) (pre : List ℕ) : Type 0 where
  pub header : LawfulHeader h
  pub formed : FormedBatches h.kind 0 g.closed
  pub few : length g.closed < 65536
  pub totals : FitsTotals (tally no_totals (all_rows g.closed))
  pub wrote : pre ≡ encode (record { header = h; batches = g.closed })

abbrev pub Reached : Stage → Log → List ℕ → Type 0
Reached BeforeHeader g pre = (g ≡ blank) × (pre ≡ [])
Reached (Between s) g pre = AtBetween s g pre
Reached (InBatch s b) g pre = AtBatch s b g pre
Reached (AfterEnd s) g pre = AtEnd s.header g pre

-- tests that came out true

pub same_totals_lem : (s t : Totals) → same_totals s t ≡ true → s ≡ t
same_totals_lem s t e =
    let a = and_parts _ _ e in
    let b = and_parts _ _ a.1 in
    let c = and_parts _ _ b.1 in
    λ i. record { count = eqb-true s.count t.count a.0 i; amounts = eqb-true s.amounts t.amounts b.0 i; commissions = eqb-true s.commissions t.commissions c.0 i; parties = eqb-true s.parties t.parties c.1 i }

-- one step on

reach_to : (s : Stage) (g : Log) (m x : Moved) (pre : List ℕ) → m ≡ x → Reached x.stage (logged s x g) pre → Reached m.stage (logged s m g) pre
reach_to s g m x pre e h = subst (λ y. Reached y.stage (logged s y g) pre) (sym e) h

opens : (v : List ℕ) (h : Header) (g : Log) (pre : List ℕ) → length v ≡ 10 → Octets v → header_of (raw_header_in v) ≡ Some h → (g ≡ blank) × (pre ≡ []) → AtBetween (begun h) g (pre ++ enc_record FileHeader v)
opens v h g pre l o e r =
    let w = header_said (raw_header_in v) h e in
    subst (λ x. AtBetween (begun h) x (pre ++ enc_record FileHeader v)) (sym r.0) (record {
      header = w.lawful;
      formed = tt;
      shut = refl;
      count = refl;
      last = refl;
      totals = refl;
      wrote = ap (λ p. p ++ enc_record FileHeader v) r.1 ∙ ap (enc_record FileHeader) (sym (header_forth v l o) ∙ ap enc_header (sym w.raw)) ∙ sym (append-nil (enc_file_head h));
    })

opens_batch : (s : Sofar) (v : List ℕ) (g : Log) (pre : List ℕ) → length v ≡ 3 → Octets v → (batch_head_in v).kind ≡ batch_kind s.header.kind → s.last < (batch_head_in v).number → AtBetween s g pre → AtBatch s (fresh (batch_head_in v).number) g (pre ++ enc_record BatchHeader v)
opens_batch s v g pre l o k above r =
    record {
      header = r.header;
      formed = r.formed;
      count = r.count;
      above = omega (arith, r.last);
      number = head_number v l o;
      rows = subst (FormedRows s.header.kind) (sym r.shut) tt;
      totals = r.totals ∙ ap (tally no_totals) (sym (append-nil (all_rows g.closed)) ∙ ap (λ x. all_rows g.closed ++ x) (sym r.shut));
      batch = ap (tally no_totals) (sym r.shut);
      wrote = ap (λ p. p ++ enc_record BatchHeader v) r.wrote ∙ ap (λ x. opening s.header g.closed ++ x) (ap (enc_record BatchHeader) (sym (head_forth v l o) ∙ ap (λ x. x ∷ in_bytes 2 (batch_head_in v).number) k) ∙ sym (append-nil (enc_batch_head s.header (batch_head_in v).number)) ∙ ap (λ x. enc_batch_head s.header (batch_head_in v).number ++ enc_rows x) (sym r.shut));
    }

takes_row : (s : Sofar) (b : OpenBatch) (x : Row) (w : List ℕ) (g : Log) (pre : List ℕ) → w ≡ enc_row x → FitsRow x → is_of s.header.kind x ≡ true → AtBatch s b g pre → Reached (row_in s b x) (logged (InBatch s b) (took s b x) g) (pre ++ w)
takes_row s b x w g pre e fit k r =
    record {
      header = r.header;
      formed = r.formed;
      count = r.count;
      above = r.above;
      number = r.number;
      rows = formed_rows_push s.header.kind g.held x r.rows fit k;
      totals = ap (λ t. plus t x) r.totals ∙ sym (tally-++ no_totals (all_rows g.closed ++ g.held) (x ∷ [])) ∙ ap (tally no_totals) (append_assoc (all_rows g.closed) g.held (x ∷ []));
      batch = ap (λ t. plus t x) r.batch ∙ sym (tally-++ no_totals g.held (x ∷ []));
      wrote = (λ i. r.wrote i ++ e i) ∙ append_assoc (opening s.header g.closed) (enc_batch_head s.header b.number ++ enc_rows g.held) (enc_row x) ∙ ap (λ l. opening s.header g.closed ++ l) (append_assoc (enc_batch_head s.header b.number) (enc_rows g.held) (enc_row x) ∙ ap (λ l. enc_batch_head s.header b.number ++ l) (ap (λ l. enc_rows g.held ++ l) (sym (append-nil (enc_row x))) ∙ sym (in_bytes_rows-++ g.held (x ∷ []))));
    }

abbrev held : OpenBatch → Log → BatchValue
held b g = record { number = b.number; rows = g.held }

closes : (s : Sofar) (b : OpenBatch) (v : List ℕ) (g : Log) (pre : List ℕ) → length v ≡ 24 → Octets v → (closing_in v).number ≡ b.number → (closing_in v).totals ≡ b.totals → AtBatch s b g pre → Reached (Between (shut_batch s b)) (logged (InBatch s b) (goes_to (Between (shut_batch s b))) g) (pre ++ enc_record BatchEnd v)
closes s b v g pre l o en et r =
    let t = et ∙ r.batch in
    let h : Header = s.header in
    let c : List BatchValue = g.closed in
    let F : List ℕ = enc_file_head h in
    let H : List ℕ = enc_batch_head h b.number in
    let R : List ℕ = enc_rows g.held in
    let E : List ℕ = enc_batch_end b.number g.held in
    let ends : enc_record BatchEnd v ≡ E = ap (enc_record BatchEnd) (sym (closing_forth v l o) ∙ (λ i. enc_closing (en i) (t i))) in
    record {
      header = r.header;
      formed = formed_batches_push h.kind 0 g.closed (held b g) r.formed r.above r.number r.rows (subst FitsTotals t (closing_fits v l o));
      shut = refl;
      count = ap (λ n. n + 1) r.count ∙ sym (length-append g.closed (held b g ∷ []));
      last = sym (last_push 0 g.closed (held b g));
      totals = r.totals ∙ ap (tally no_totals) (sym (all_rows-++ g.closed (held b g ∷ []) ∙ ap (λ x. all_rows g.closed ++ x) (append-nil g.held)));
      wrote = (λ i. r.wrote i ++ ends i) ∙ append_assoc (opening h c) (H ++ R) E ∙ ap (λ x. opening h c ++ x) (append_assoc H R E ∙ ap (λ x. H ++ (R ++ x)) (sym (append-nil E))) ∙ append_assoc F (enc_batches h c) (H ++ (R ++ (E ++ []))) ∙ ap (λ x. F ++ x) (sym (in_bytes_batches-++ h c (held b g ∷ [])));
    }

ends_file : (s : Sofar) (v : List ℕ) (g : Log) (pre : List ℕ) → length v ≡ 24 → Octets v → (closing_in v).number ≡ s.batches → (closing_in v).totals ≡ s.totals → AtBetween s g pre → AtEnd s.header g (pre ++ enc_record FileEnd v)
ends_file s v g pre l o en et r =
    let n = en ∙ r.count in
    let t = et ∙ r.totals in
    let ends : enc_record FileEnd v ≡ enc_file_end g.closed = ap (enc_record FileEnd) (sym (closing_forth v l o) ∙ (λ i. enc_closing (n i) (t i))) in
    record {
      header = r.header;
      formed = r.formed;
      few = subst (λ x. x < 65536) n (closing_number v l o);
      totals = subst FitsTotals t (closing_fits v l o);
      wrote = (λ i. r.wrote i ++ ends i) ∙ append_assoc (enc_file_head s.header) (enc_batches s.header g.closed) (enc_file_end g.closed);
    }

reach : (s : Stage) (t : Tag) (v : List ℕ) (m : Moved) (g : Log) (pre : List ℕ) → length v ≡ width t → Octets v → Reached s g pre → Steps s t v m → Reached m.stage (logged s m g) (pre ++ enc_record t v)
reach BeforeHeader FileHeader v m g pre l o r e = reach_to BeforeHeader g m _ _ e.2 (opens v e.0 g pre l o e.1 r)
reach (Between s) BatchHeader v m g pre l o r e = reach_to (Between s) g m _ _ e.2 (opens_batch s v g pre l o (eqb-true _ _ e.0) (leb-false _ _ e.1) r)
reach (Between s) FileEnd v m g pre l o r e =
    let p = and_parts _ _ e.0 in
    reach_to (Between s) g m _ _ e.1 (ends_file s v g pre l o (eqb-true _ _ p.0) (same_totals_lem _ _ p.1) r)
reach (InBatch s b) t_presentation v m g pre l o r e = reach_to (InBatch s b) g m _ _ e.1 (takes_row s b (Presentation (presentation_in v)) _ g pre (ap (enc_record t_presentation) (sym (presented_forth v l o))) (presented_fits v l o) e.0 r)
reach (InBatch s b) t_return v m g pre l o r e = reach_to (InBatch s b) g m _ _ e.1 (takes_row s b (Return (return_in v)) _ g pre (ap (enc_record t_return) (sym (returned_forth v l o))) (returned_fits v l o) e.0 r)
reach (InBatch s b) BatchEnd v m g pre l o r e = reach_to (InBatch s b) g m _ _ e.2 (closes s b v g pre l o (eqb-true _ _ e.0) (same_totals_lem _ _ e.1) r)
reach BeforeHeader BatchHeader v m g pre l o r e = absurd e
reach BeforeHeader t_presentation v m g pre l o r e = absurd e
reach BeforeHeader t_return v m g pre l o r e = absurd e
reach BeforeHeader BatchEnd v m g pre l o r e = absurd e
reach BeforeHeader FileEnd v m g pre l o r e = absurd e
reach (Between s) FileHeader v m g pre l o r e = absurd e
reach (Between s) t_presentation v m g pre l o r e = absurd e
reach (Between s) t_return v m g pre l o r e = absurd e
reach (Between s) BatchEnd v m g pre l o r e = absurd e
reach (InBatch s b) FileHeader v m g pre l o r e = absurd e
reach (InBatch s b) BatchHeader v m g pre l o r e = absurd e
reach (InBatch s b) FileEnd v m g pre l o r e = absurd e
reach (AfterEnd h) t v m g pre l o r e = absurd e

-- one turn on
pub record Onward (s : Stage) (g : Log) (pre bs : List ℕ) (m : Moved) : Type 0 where
  pub whole : List ℕ
  pub reached : Reached m.stage (logged s m g) whole
  pub octets : Octets (drop (gone bs) bs)
  pub far : length whole ≡ length pre + gone bs
  pub wrote : whole ++ drop (gone bs) bs ≡ pre ++ bs

pub on : (n : ℕ) (s : Stage) (bs : List ℕ) (m : Moved) (g : Log) (pre : List ℕ) → Octets bs → Reached s g pre → turned n s bs ≡ Ok m → Onward s g pre bs m
on n s bs m g pre o r e =
    let p = turned_ok n s bs m e in
    let d : Read bs p.0 = read bs p.0 o p.1 in
    let w : List ℕ = enc_record p.0.tag p.0.value in
    record {
      whole = pre ++ w;
      reached = reach s p.0.tag p.0.value m g pre d.sized d.value r (steps s p.0.tag p.0.value m p.2);
      octets = subst Octets (sym d.left) d.more;
      far = omega (arith, length-append pre w, ap gone_by p.1);
      wrote = ap (λ x. (pre ++ w) ++ x) d.left ∙ append_assoc pre w d.rest ∙ ap (λ x. pre ++ x) (sym d.wrote);
    }

onward_ok : (q : Result Moved Fault) (end : Header → Verdict) (go : Moved → Verdict) (f : FileValue) → onward None q end go ≡ Ok f → (m : Moved) × (q ≡ Ok m) × (go m ≡ Ok f)
onward_ok (Ok m) end go f e = (m, refl, e)
onward_ok (Err x) end go f e = absurd (cc)

abbrev Says : FileValue → List ℕ → Type 0
Says f bs = AtEnd f.header (record { closed = f.batches; held = [] }) bs

says_at : (h : Header) (g : Log) (n : ℕ) (bs pre : List ℕ) (f : FileValue) → AtEnd h g pre → ended h g n bs ≡ Ok f → Says f (pre ++ bs)
says_at h g n [] pre f r e =
    let same : record { header = h; batches = g.closed } ≡ f = cc in
    subst (λ x. Says x (pre ++ [])) same (subst (λ x. Says (record { header = h; batches = g.closed }) x) (sym (append-nil pre)) (record { header = r.header; formed = r.formed; few = r.few; totals = r.totals; wrote = r.wrote }))
says_at h g n (b ∷ bs) pre f r e = absurd (cc)

sound_run : (k : ℕ) (s : Stage) (g : Log) (n : ℕ) (bs pre : List ℕ) (f : FileValue) → Octets bs → Reached s g pre → run k s g n bs ≡ Ok f → Says f (pre ++ bs)
sound_run zero s g n bs pre f o r e = absurd (cc)
sound_run (suc k) BeforeHeader g n bs pre f o r e =
    let q = onward_ok (turned n BeforeHeader bs) _ _ f e in
    let w : Onward BeforeHeader g pre bs q.0 = on n BeforeHeader bs q.0 g pre o r q.1 in
    subst (Says f) w.wrote (sound_run k q.0.stage (logged BeforeHeader q.0 g) (n + gone bs) (drop (gone bs) bs) w.whole f w.octets w.reached q.2)
sound_run (suc k) (Between a) g n bs pre f o r e =
    let q = onward_ok (turned n (Between a) bs) _ _ f e in
    let w : Onward (Between a) g pre bs q.0 = on n (Between a) bs q.0 g pre o r q.1 in
    subst (Says f) w.wrote (sound_run k q.0.stage (logged (Between a) q.0 g) (n + gone bs) (drop (gone bs) bs) w.whole f w.octets w.reached q.2)
sound_run (suc k) (InBatch a b) g n bs pre f o r e =
    let q = onward_ok (turned n (InBatch a b) bs) _ _ f e in
    let w : Onward (InBatch a b) g pre bs q.0 = on n (InBatch a b) bs q.0 g pre o r q.1 in
    subst (Says f) w.wrote (sound_run k q.0.stage (logged (InBatch a b) q.0 g) (n + gone bs) (drop (gone bs) bs) w.whole f w.octets w.reached q.2)
sound_run (suc k) (AfterEnd s) g n bs pre f o r e = says_at s.header g n bs pre f r e

pub sound : (bs : List ℕ) (f : FileValue) → Octets bs → judge bs ≡ Ok f → Formed f × (bs ≡ encode f)
sound bs f o e =
    ⊎_elim
    (λ long. let x = judge_long bs long in absurd (cc))
    (λ short.
    let r : Says f bs = sound_run (suc (length bs)) BeforeHeader blank 0 bs [] f o (refl, refl) (sym (judge_short bs short) ∙ e) in (
      record { header = r.header; batches = r.formed; few = r.few; totals = r.totals; short = subst (λ x. length x ≤ 65535) r.wrote short },
      r.wrote,
    ))
    (order 65535 (length bs))
