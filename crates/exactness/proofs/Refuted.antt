-- What breaks a rule, behind what stands in order, is refused by that rule.
use Rattle.std.proofs.Common.{◌≡◌, ℕ, zero, suc, ◌+◌, ◌-◌, ◌<◌, ◌≤◌, true, List, [], ◌∷◌, ◌++◌, length, None, Ok, Err, Result, sym, refl, ap, ◌∙◌, subst, inl, inr, append_assoc, arith, length-append, eqb-true, leb-false}
use Rattle.std.proofs.lemmas.Bool.{and_parts}
use Rattle.wire.specs.Bytes.{in_bytes, Octets}
use Rattle.wire.specs.Records.{Piece, width}
use Rattle.terms.specs.Numbers.{batch_kind}
use Rattle.wire.specs.Rows.{is_of, no_totals, tally}
use Rattle.memberfile.specs.Stages.{begun, fresh, stepped}
use Rattle.memberfile.specs.Layout.{BatchValue, all_rows, enc_batch_head, enc_batches, enc_file_head, enc_rows, FormedRows, FormedBatches, LawfulHeader}
use Rattle.memberfile.specs.Judge.{turned, Log, blank, ending, judge, summed, Verdict}
use Rattle.exactness.specs.Refusal.{Breaks, FaultIn, FileRule, FirstBroken, Follows, Front, HeaderRight, Keeps, Refused, RefusedBy, Right, Rule, Stands, bare, batches, bytes_of, fault_of, fields, file, head_whole, header_in_range, in_order, kind_right, last_of, length_right, number_right, opened, opening, rules, tag_known, totals_right, value_at, value_whole, whole}
use Rattle.memberfile.specs.declared.header.Header.{Header}
use Rattle.wire.specs.declared.record.Tag.{Tag}
use Rattle.wire.specs.declared.record.Tag.TheVariants.{FileHeader, BatchHeader, Presentation as t_presentation, Return as t_return, BatchEnd, FileEnd}
use Rattle.memberfile.specs.declared.stage.Moved.{Moved}
use Rattle.memberfile.specs.declared.stage.Sofar.{Sofar}
use Rattle.memberfile.specs.declared.stage.Stage.{Stage}
use Rattle.memberfile.specs.declared.stage.Stage.TheVariants.{BeforeHeader, Between, InBatch, AfterEnd}
use Rattle.terms.specs.declared.fault.Fault.{Fault}
use Rattle.terms.specs.declared.file_kind.FileKind.{FileKind}
use Rattle.terms.specs.declared.file_kind.FileKind.TheVariants.{Presentations, Returns}
use Rattle.wire.specs.declared.row.Row.TheVariants.{Presentation, Return}
use Rattle.wire.specs.declared.values.Presentation.{Presentation as PresentationV}
use Rattle.wire.specs.declared.values.Return.{Return as ReturnV}
use Rattle.memberfile.specs.declared.check.Summary.{Summary}
use Rattle.exactness.proofs.Complete.{Gets, gets_at, step_on, rows_on, batches_gets, whole_gets, head_step, through, through_header, through_batches, through_totals, with_rows, batch_with, log_of, tally-++}
use Rattle.memberfile.proofs.Summaries.{summed_err, summed_ok}
use Rattle.exactness.proofs.Headers.{said_in_range}
use Rattle.exactness.proofs.Refuse.{same_tag, front_of, Fine, fine, turn_breaks, refuses}
use Rattle.exactness.proofs.Sound.{Reached, same_totals_lem}
use Rattle.memberfile.proofs.Steps.{Steps, steps}
use Rattle.memberfile.proofs.Turns.{turned_ok, run_off, judge_long, judge_short}

-- the stage and the log behind what stands before a place

abbrev sofar_of : Header → List BatchValue → Sofar
sofar_of h c = through (begun h) c

through_last : (s : Sofar) (c : List BatchValue) → (through s c).last ≡ last_of s.last c
through_last s [] = refl
through_last s (b ∷ c) = through_last (through s (b ∷ [])) c

abbrev stage_at : Front → Stage
stage_at bare = BeforeHeader
stage_at (batches h c) = Between (sofar_of h c)
stage_at (opened h c n rs) = InBatch (with_rows (sofar_of h c) rs) (batch_with (fresh n) (tally no_totals rs))
stage_at (whole f) = AfterEnd (sofar_of f.header f.batches)

abbrev log_at : Front → Log
log_at bare = blank
log_at (batches h c) = log_of c []
log_at (opened h c n rs) = log_of c rs
log_at (whole f) = log_of f.batches []

head_next : (s : Sofar) (h : Header) (n : ℕ) (c : List BatchValue) (rest : List ℕ) (V : ℕ → Verdict) → s.header ≡ h → s.last < n → n < 65536 → Gets (InBatch s (fresh n)) (log_of c []) rest V → Gets (Between s) (log_of c []) (enc_batch_head h n ++ rest) V
head_next s h n c rest V e above l next =
    gets_at (Between s) (log_of c []) V _ _ (ap (λ x. enc_batch_head x n ++ rest) e)
    (step_on (Between s) (log_of c []) BatchHeader (batch_kind s.header.kind ∷ in_bytes 2 n) rest _ V refl refl (head_step s n above l) next)

gets_from : (p : Front) → Stands p → (rest : List ℕ) (V : ℕ → Verdict) → Gets (stage_at p) (log_at p) rest V → Gets BeforeHeader blank (bytes_of p ++ rest) V
gets_from bare st rest V next = next
gets_from (batches h c) st rest V next =
    gets_at BeforeHeader blank V _ _ (sym (append_assoc (enc_file_head h) (enc_batches h c) rest))
    (batches_gets h c rest V st.0 st.1 next)
gets_from (opened h c n rs) st rest V next =
    let E : List ℕ = enc_file_head h in
    let B : List ℕ = enc_batches h c in
    let H : List ℕ = enc_batch_head h n in
    let R : List ℕ = enc_rows rs in
    let same : (sofar_of h c).header ≡ h = through_header (begun h) c in
    gets_at BeforeHeader blank V _ _ (sym (append_assoc (E ++ B) (H ++ R) rest ∙ append_assoc E B ((H ++ R) ++ rest) ∙ ap (λ x. E ++ (B ++ x)) (append_assoc H R rest)))
    (batches_gets h c (H ++ (R ++ rest)) V st.0.0 st.0.1
    (head_next (sofar_of h c) h n c (R ++ rest) V same (omega (arith, through_last (begun h) c, st.1)) st.2
    (rows_on rs (sofar_of h c) (fresh n) c [] rest V (subst (λ x. FormedRows x.kind rs) (sym same) st.3) next)))
gets_from (whole f) st rest V next = whole_gets f rest V st.0.0 st.0.1 st.1 st.2 next

-- a step that is taken keeps the rules

abbrev Kept : Front → Tag → List ℕ → Type 0
Kept p t v = Follows p t × HeaderRight t v × Right kind_right p t v × Right number_right p t v × Right totals_right p t v

pick : (p : Front) (t : Tag) (v : List ℕ) → Kept p t v → (d : FileRule) → Right d p t v
pick p t v k in_order = k.0
pick p t v k header_in_range = k.1
pick p t v k kind_right = k.2
pick p t v k number_right = k.3
pick p t v k totals_right = k.4

of_presentations : (k : FileKind) (p : PresentationV) → is_of k (Presentation p) ≡ true → k ≡ Presentations
of_presentations Presentations p e = refl
of_presentations Returns p e = absurd (cc)

of_returns : (k : FileKind) (p : ReturnV) → is_of k (Return p) ≡ true → k ≡ Returns
of_returns Returns p e = refl
of_returns Presentations p e = absurd (cc)

kept : (s : Stage) (g : Log) (pre : List ℕ) → Reached s g pre → (t : Tag) (v : List ℕ) (m : Moved) → Steps s t v m → Kept (front_of s g) t v
kept BeforeHeader g pre r FileHeader v m e = (refl, said_in_range _ e.0 e.1, tt, tt, tt)
kept (Between s) g pre r BatchHeader v m e = (inl refl, tt, eqb-true _ _ e.0, omega (arith, leb-false _ _ e.1, r.last), tt)
kept (Between s) g pre r FileEnd v m e = let p = and_parts _ _ e.0 in (inr refl, tt, tt, tt, (eqb-true _ _ p.0 ∙ r.count, same_totals_lem _ _ p.1 ∙ r.totals))
kept (InBatch s b) g pre r t_presentation v m e = (inl refl, tt, of_presentations _ _ e.0, tt, tt)
kept (InBatch s b) g pre r t_return v m e = (inr (inl refl), tt, of_returns _ _ e.0, tt, tt)
kept (InBatch s b) g pre r BatchEnd v m e = (inr (inr refl), tt, tt, eqb-true _ _ e.0, same_totals_lem _ _ e.1 ∙ r.batch)
kept BeforeHeader g pre r BatchHeader v m e = absurd e
kept BeforeHeader g pre r t_presentation v m e = absurd e
kept BeforeHeader g pre r t_return v m e = absurd e
kept BeforeHeader g pre r BatchEnd v m e = absurd e
kept BeforeHeader g pre r FileEnd v m e = absurd e
kept (Between s) g pre r FileHeader v m e = absurd e
kept (Between s) g pre r t_presentation v m e = absurd e
kept (Between s) g pre r t_return v m e = absurd e
kept (Between s) g pre r BatchEnd v m e = absurd e
kept (InBatch s b) g pre r FileHeader v m e = absurd e
kept (InBatch s b) g pre r BatchHeader v m e = absurd e
kept (InBatch s b) g pre r FileEnd v m e = absurd e
kept (AfterEnd s) g pre r t v m e = absurd e

keeps : (p : Front) (rest : List ℕ) (q : Piece) (k : Fine rest q) → Kept p k.tag (value_at k.tag rest) → (d : Rule) → Keeps d p rest
keeps p rest q k h (fields head_whole) = k.head
keeps p rest q k h (fields tag_known) = (k.tag, k.tag_is)
keeps p rest q k h (fields length_right) = λ u e. k.long ∙ ap width (same_tag k.tag u k.tag_is e)
keeps p rest q k h (fields value_whole) = λ u e. subst (λ x. 3 + width x ≤ length rest) (same_tag k.tag u k.tag_is e) k.within
keeps p rest q k h (file d) = λ u e. subst (λ x. Right d p x (value_at x rest)) (same_tag k.tag u k.tag_is e) (pick p k.tag (value_at k.tag rest) h d)

none_broken : (ds : List Rule) (c : Rule) (p : Front) (rest : List ℕ) → ((d : Rule) → Keeps d p rest) → FirstBroken ds c p rest → ⊥
none_broken [] c p rest h b = b
none_broken (d ∷ ds) c p rest h (inl k) = k.1 (h d)
none_broken (d ∷ ds) c p rest h (inr k) = none_broken ds c p rest h k.1

one_broken : (ds : List Rule) (c d : Rule) (p : Front) (rest : List ℕ) → FirstBroken ds c p rest → FirstBroken ds d p rest → c ≡ d
one_broken [] c d p rest a b = absurd a
one_broken (e ∷ ds) c d p rest (inl a) (inl b) = sym a.0 ∙ b.0
one_broken (e ∷ ds) c d p rest (inl a) (inr b) = absurd (a.1 b.0)
one_broken (e ∷ ds) c d p rest (inr a) (inl b) = absurd (b.1 a.0)
one_broken (e ∷ ds) c d p rest (inr a) (inr b) = one_broken ds c d p rest a.1 b.1

-- the turn at a broken rule
turn_refuses : (n : ℕ) (s : Stage) (g : Log) (pre rest : List ℕ) (c : Rule) → Reached s g pre → FirstBroken rules c (front_of s g) rest → (q : Result Moved Fault) → turned n s rest ≡ q → q ≡ Err (fault_of c n)
turn_refuses n s g pre rest c r b (Ok m) e =
    let p = turned_ok n s rest m e in
    let k : Fine rest p.0 = fine rest p.0 p.1 in
    absurd (none_broken rules c (front_of s g) rest (keeps (front_of s g) rest p.0 k (kept s g pre r k.tag (value_at k.tag rest) m (steps s k.tag (value_at k.tag rest) m (sym (ap (stepped s) k.is) ∙ p.2)))) b)
turn_refuses n s g pre rest c r b (Err y) e =
    let k = turn_breaks n s g rest pre y r e in
    ap Err (k.2 ∙ ap (λ d. fault_of d n) (one_broken rules k.0 c (front_of s g) rest k.1 b))

abbrev refusal : Rule → List ℕ → ℕ → Verdict
refusal c rest n = Err (fault_of c (n - length rest))

place_is : (c : Rule) (rest : List ℕ) (n : ℕ) → ◌≡◌ {A = Verdict} (Err (fault_of c n)) (refusal c rest (n + length rest))
place_is c rest n = let e : n ≡ n + length rest - length rest = omega arith in ap (λ i. Err (fault_of c i)) e

turn_gets : (s : Stage) (g : Log) (pre rest : List ℕ) (c : Rule) → ending s ≡ None → Reached s g pre → FirstBroken rules c (front_of s g) rest → Gets s g rest (refusal c rest)
turn_gets s g pre rest c e r b n zero l = absurd (omega arith)
turn_gets s g pre rest c e r b n (suc k) l = run_off k s g n rest (fault_of c n) e (turn_refuses n s g pre rest c r b (turned n s rest) refl) ∙ place_is c rest n

end_gets : (s : Sofar) (g : Log) (rest : List ℕ) → 0 < length rest → Gets (AfterEnd s) g rest (refusal (file in_order) rest)
end_gets s g rest h n zero l = absurd (omega arith)
end_gets s g [] h n (suc k) l = absurd (omega arith)
end_gets s g (b ∷ rest) h n (suc k) l = place_is (file in_order) (b ∷ rest) n

front_gets : (p : Front) (c : Rule) (rest : List ℕ) → Stands p → Breaks p c rest → Gets (stage_at p) (log_at p) rest (refusal c rest)
front_gets bare c rest st b = turn_gets BeforeHeader blank [] rest c refl (refl, refl) b
front_gets (batches h c) d rest st b =
    let same : h ≡ (sofar_of h c).header = sym (through_header (begun h) c) in
    turn_gets (Between (sofar_of h c)) (log_of c []) (opening h c) rest d refl (record {
      header = subst LawfulHeader same st.0;
      formed = subst (λ x. FormedBatches x.kind 0 c) same st.1;
      shut = refl;
      count = through_batches (begun h) c ∙ omega arith;
      last = through_last (begun h) c;
      totals = through_totals (begun h) c;
      wrote = ap (λ x. opening x c) same;
    }) (subst (λ x. FirstBroken rules d (batches x c) rest) same b)
front_gets (opened h c n rs) d rest st b =
    let same : h ≡ (sofar_of h c).header = sym (through_header (begun h) c) in
    turn_gets (stage_at (opened h c n rs)) (log_of c rs) (bytes_of (opened h c n rs)) rest d refl (record {
      header = subst LawfulHeader same st.0.0;
      formed = subst (λ x. FormedBatches x.kind 0 c) same st.0.1;
      count = through_batches (begun h) c ∙ omega arith;
      above = st.1;
      number = st.2;
      rows = subst (λ x. FormedRows x.kind rs) same st.3;
      totals = ap (λ t. tally t rs) (through_totals (begun h) c) ∙ sym (tally-++ no_totals (all_rows c) rs);
      batch = refl;
      wrote = ap (λ x. opening x c ++ (enc_batch_head x n ++ enc_rows rs)) same;
    }) (subst (λ x. FirstBroken rules d (opened x c n rs) rest) same b)
front_gets (whole f) d rest st b = subst (λ x. Gets (stage_at (whole f)) (log_at (whole f)) rest (refusal x rest)) (sym b.0) (end_gets (sofar_of f.header f.batches) (log_of f.batches []) rest b.1)

faulty : (bs : List ℕ) (x : Fault) → length bs ≤ 65535 → FaultIn bs x → judge bs ≡ Err x
faulty bs x short w =
    let p : Front = w.front in
    let got : Gets BeforeHeader blank bs (refusal w.rule w.rest) = gets_at BeforeHeader blank (refusal w.rule w.rest) _ _ (sym w.wrote) (gets_from p w.stands w.rest (refusal w.rule w.rest) (front_gets p w.rule w.rest w.stands w.breaks)) in
    let at : 0 + length bs - length w.rest ≡ length (bytes_of p) = omega (arith, ap length w.wrote, length-append (bytes_of p) w.rest) in
    judge_short bs short ∙ got 0 (suc (length bs)) (omega arith) ∙ ap (λ n. Err (fault_of w.rule n)) at ∙ ap Err (sym w.fault)

pub refuted : (bs : List ℕ) (x : Fault) → Refused bs x → judge bs ≡ Err x
refuted bs x (inl k) = judge_long bs k.0 ∙ ap Err (sym k.1)
refuted bs x (inr k) = faulty bs x k.0 k.1

pub refused_by : (bs : List ℕ) (r : Result Summary Fault) → Octets bs → r ≡ summed (judge bs) → RefusedBy bs r
refused_by bs (Ok m) o e = λ x h. let j = summed_ok (judge bs) m e in let k = refuted bs x h in cc
refused_by bs (Err x) o e = let j = summed_err (judge bs) x e in (refuses bs x o j, λ y h. let k = refuted bs y h in cc)
