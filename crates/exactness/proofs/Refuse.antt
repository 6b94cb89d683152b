-- What is refused breaks the rule that is said, behind what stands in order.
use Rattle.std.proofs.Common.{◌≡◌, ℕ, zero, suc, ◌+◌, ◌*◌, ◌<◌, ◌≤◌, Bool, true, false, cond, ◌&&◌, eqb, ltb, ◌⊎◌, List, [], ◌∷◌, ◌++◌, length, get_or, take, drop, Some, None, Ok, Err, Option, Result, sym, refl, ap, ◌∙◌, subst, inl, inr, ⊎_elim, arith, ltb-true, eq-eqb, eqb-true, leb-true}
use Rattle.std.proofs.str.Laws.{order}
use borrow.Author.Tests.{eqb-false, both_ways}
use Rattle.wire.specs.Bytes.{Octets}
use Rattle.wire.specs.Records.{Piece, piece, width, tag_byte, tag_of, behind_head, first_record, at_place}
use Rattle.wire.specs.Values.{raw_header_in, closing_in}
use Rattle.wire.specs.Rows.{is_of, no_totals, same_totals, tally}
use Rattle.memberfile.specs.Headers.{header_of}
use Rattle.memberfile.specs.Stages.{opened_by, step_placed, stepped}
use Rattle.memberfile.specs.Judge.{gone, turned_by, turned, Log, blank, logged, ended, ending, onward, judge, run, Verdict}
use Rattle.memberfile.specs.Layout.{all_rows}
use Rattle.exactness.specs.Refusal.{Breaks, FaultIn, FieldsRule, FileRule, FirstBroken, Follows, Front, Keeps, Refused, Right, Rule, Stands, as_rules, bare, batches, bytes_of, fault_of, fields, fields_cause, file, file_cause, file_rules, head_whole, header_in_range, in_order, kind_right, length_right, number_right, opened, rules, tag_at, tag_known, totals_right, value_at, value_whole, whole}
use Rattle.memberfile.specs.declared.header.Header.{Header}
use Rattle.wire.specs.declared.record.Tag.{Tag}
use Rattle.wire.specs.declared.record.Tag.TheVariants.{FileHeader, BatchHeader, Presentation as t_presentation, Return as t_return, BatchEnd, FileEnd}
use Rattle.memberfile.specs.declared.stage.Moved.{Moved}
use Rattle.memberfile.specs.declared.stage.Stage.{Stage}
use Rattle.memberfile.specs.declared.stage.Stage.TheVariants.{BeforeHeader, Between, InBatch, AfterEnd}
use Rattle.terms.specs.Codes.{fields_fault, file_fault}
use Rattle.terms.specs.declared.fault.Fault.{Fault}
use Rattle.terms.specs.declared.file_kind.FileKind.{FileKind}
use Rattle.terms.specs.declared.file_kind.FileKind.TheVariants.{Presentations, Returns}
use Rattle.terms.specs.declared.refusal.Refusal.{Refusal}
use Rattle.terms.specs.declared.refusal.Refusal.TheVariants.{HeaderValue, OutOfOrder, ValueCut, WrongLength}
use Rattle.wire.specs.declared.row.Row.TheVariants.{Presentation, Return}
use Rattle.wire.specs.declared.values.Presentation.{Presentation as PresentationV}
use Rattle.wire.specs.declared.values.Return.{Return as ReturnV}
use Rattle.exactness.proofs.Complete.{same_refl}
use Rattle.exactness.proofs.Forth.{behind_inv}
use Rattle.exactness.proofs.Headers.{unsaid_out}
use Rattle.exactness.proofs.Sound.{Reached, Onward, on}
use Rattle.memberfile.proofs.Turns.{turned_ok, judge_long, judge_short}
use Rattle.memberfile.proofs.Walks.{less}

-- tests that ended in a fault

abbrev Step : Type 0
Step = Result Moved Refusal

no_one : (b : Bool) (x : Moved) (c d : Refusal) → ◌≡◌ {A = Step} (cond b (Ok x) (Err d)) (Err c) → (b ≡ false) × (d ≡ c)
no_one true x c d e = absurd (cc)
no_one false x c d e = (refl, cc)

no_two : (a b : Bool) (x : Moved) (c d k : Refusal) → ◌≡◌ {A = Step} (cond a (cond b (Ok x) (Err d)) (Err k)) (Err c) → ((a ≡ false) × (k ≡ c)) ⊎ ((a ≡ true) × (b ≡ false) × (d ≡ c))
no_two true true x c d k e = absurd (cc)
no_two true false x c d k e = inr (refl, refl, cc)
no_two false b x c d k e = inl (refl, cc)

no_yes : (a b : Bool) (x : Moved) (c d k : Refusal) → ◌≡◌ {A = Step} (cond a (cond b (Err d) (Ok x)) (Err k)) (Err c) → ((a ≡ false) × (k ≡ c)) ⊎ ((a ≡ true) × (b ≡ true) × (d ≡ c))
no_yes true false x c d k e = absurd (cc)
no_yes true true x c d k e = inr (refl, refl, cc)
no_yes false b x c d k e = inl (refl, cc)

-- what stands before a stage's place
abbrev pub front_of : Stage → Log → Front
front_of BeforeHeader g = bare
front_of (Between s) g = batches s.header g.closed
front_of (InBatch s b) g = opened s.header g.closed b.number g.held
front_of (AfterEnd s) g = whole (record { header = s.header; batches = g.closed })

front_stands : (s : Stage) (g : Log) (pre : List ℕ) → Reached s g pre → Stands (front_of s g) × (pre ≡ bytes_of (front_of s g))
front_stands BeforeHeader g pre r = (tt, r.1)
front_stands (Between s) g pre r = ((r.header, r.formed), r.wrote)
front_stands (InBatch s b) g pre r = (((r.header, r.formed), r.above, r.number, r.rows), r.wrote)
front_stands (AfterEnd s) g pre r = (((r.header, r.formed), r.few, r.totals), r.wrote)

-- the same rules of one record
abbrev Broken : List FileRule → FileRule → Front → Tag → List ℕ → Type 0
Broken [] c p t v = ⊥
Broken (d ∷ ds) c p t v = ((d ≡ c) × (Right d p t v → ⊥)) ⊎ (Right d p t v × Broken ds c p t v)

apart : (t u : Tag) → eqb (tag_byte t) (tag_byte u) ≡ false → t ≡ u → ⊥
apart t u e h = eqb-false (tag_byte t) (tag_byte u) e (ap tag_byte h)

-- the rule that a record breaks first, with what it is refused with
abbrev BrokenBy : Refusal → Front → Tag → List ℕ → Type 0
BrokenBy c p t v = (r : FileRule) × (file_cause r ≡ c) × Broken file_rules r p t v

misplaced : (c : Refusal) (p : Front) (t : Tag) (v : List ℕ) → (Follows p t → ⊥) → ◌≡◌ {A = Step} (Err OutOfOrder) (Err c) → BrokenBy c p t v
misplaced c p t v not e = (in_order, cc, inl (refl, not))

unopened : (o : Option Header) (c : Refusal) → opened_by o ≡ Err c → (o ≡ None) × (HeaderValue ≡ c)
unopened (Some h) c e = absurd (cc)
unopened None c e = (refl, cc)

of_presentations : (k : FileKind) (p : PresentationV) → is_of k (Presentation p) ≡ false → k ≡ Presentations → ⊥
of_presentations k p n e = both_ways _ n (ap (λ x. is_of x (Presentation p)) e)

of_returns : (k : FileKind) (p : ReturnV) → is_of k (Return p) ≡ false → k ≡ Returns → ⊥
of_returns k p n e = both_ways _ n (ap (λ x. is_of x (Return p)) e)

both : {A B : Type 0} → (A → ⊥) → (B → ⊥) → A ⊎ B → ⊥
both a b s = ⊎_elim a b s

step_broken : (s : Stage) (g : Log) (pre : List ℕ) → Reached s g pre → (t : Tag) (v : List ℕ) (c : Refusal) → stepped s (piece t v) ≡ Err c → BrokenBy c (front_of s g) t v
step_broken BeforeHeader g pre r FileHeader v c e = let k = unopened (header_of (raw_header_in v)) c e in (header_in_range, k.1, inr (refl, inl (refl, unsaid_out (raw_header_in v) k.0)))
step_broken BeforeHeader g pre r BatchHeader v c e = misplaced c bare BatchHeader v (apart BatchHeader FileHeader refl) e
step_broken BeforeHeader g pre r t_presentation v c e = misplaced c bare t_presentation v (apart t_presentation FileHeader refl) e
step_broken BeforeHeader g pre r t_return v c e = misplaced c bare t_return v (apart t_return FileHeader refl) e
step_broken BeforeHeader g pre r BatchEnd v c e = misplaced c bare BatchEnd v (apart BatchEnd FileHeader refl) e
step_broken BeforeHeader g pre r FileEnd v c e = misplaced c bare FileEnd v (apart FileEnd FileHeader refl) e
step_broken (Between s) g pre r BatchHeader v c e =
    ⊎_elim
    (λ k. (kind_right, k.1, inr (inl refl, inr (tt, inl (refl, eqb-false _ _ k.0)))))
    (λ k. (number_right, k.2, inr (inl refl, inr (tt, inr (eqb-true _ _ k.0, inl (refl, λ h. omega (arith, leb-true _ _ k.1, r.last)))))))
    (no_yes _ _ _ c _ _ e)
step_broken (Between s) g pre r FileEnd v c e =
    let k = no_one _ _ c _ e in
    let differs : ((closing_in v).number ≡ length g.closed) × ((closing_in v).totals ≡ tally no_totals (all_rows g.closed)) → ⊥ = λ h.
    let n : eqb (closing_in v).number s.batches ≡ true = eq-eqb _ _ (h.0 ∙ sym r.count) in
    let t : same_totals (closing_in v).totals s.totals ≡ true = ap (λ x. same_totals x s.totals) (h.1 ∙ sym r.totals) ∙ same_refl s.totals in
    both_ways _ k.0 (λ i. n i && t i) in
    (totals_right, k.1, inr (inr refl, inr (tt, inr (tt, inr (tt, inl (refl, differs))))))
step_broken (Between s) g pre r FileHeader v c e = misplaced c (batches s.header g.closed) FileHeader v (both (apart FileHeader BatchHeader refl) (apart FileHeader FileEnd refl)) e
step_broken (Between s) g pre r t_presentation v c e = misplaced c (batches s.header g.closed) t_presentation v (both (apart t_presentation BatchHeader refl) (apart t_presentation FileEnd refl)) e
step_broken (Between s) g pre r t_return v c e = misplaced c (batches s.header g.closed) t_return v (both (apart t_return BatchHeader refl) (apart t_return FileEnd refl)) e
step_broken (Between s) g pre r BatchEnd v c e = misplaced c (batches s.header g.closed) BatchEnd v (both (apart BatchEnd BatchHeader refl) (apart BatchEnd FileEnd refl)) e
step_broken (InBatch s b) g pre r t_presentation v c e = let k = no_one _ _ c _ e in (kind_right, k.1, inr (inl refl, inr (tt, inl (refl, of_presentations _ _ k.0))))
step_broken (InBatch s b) g pre r t_return v c e = let k = no_one _ _ c _ e in (kind_right, k.1, inr (inr (inl refl), inr (tt, inl (refl, of_returns _ _ k.0))))
step_broken (InBatch s b) g pre r BatchEnd v c e =
    ⊎_elim
    (λ k. (number_right, k.1, inr (inr (inr refl), inr (tt, inr (tt, inl (refl, eqb-false _ _ k.0))))))
    (λ k. (totals_right, k.2, inr (inr (inr refl), inr (tt, inr (tt, inr (eqb-true _ _ k.0, inl (refl, λ h. both_ways _ k.1 (ap (λ x. same_totals x b.totals) (h ∙ sym r.batch) ∙ same_refl b.totals))))))))
    (no_two _ _ _ c _ _ e)
step_broken (InBatch s b) g pre r FileHeader v c e = misplaced c (opened s.header g.closed b.number g.held) FileHeader v (both (apart FileHeader t_presentation refl) (both (apart FileHeader t_return refl) (apart FileHeader BatchEnd refl))) e
step_broken (InBatch s b) g pre r BatchHeader v c e = misplaced c (opened s.header g.closed b.number g.held) BatchHeader v (both (apart BatchHeader t_presentation refl) (both (apart BatchHeader t_return refl) (apart BatchHeader BatchEnd refl))) e
step_broken (InBatch s b) g pre r FileEnd v c e = misplaced c (opened s.header g.closed b.number g.held) FileEnd v (both (apart FileEnd t_presentation refl) (both (apart FileEnd t_return refl) (apart FileEnd BatchEnd refl))) e
step_broken (AfterEnd s) g pre r t v c e = misplaced c (whole (record { header = s.header; batches = g.closed })) t v (λ h. h) e

-- one record's rules are those of the bytes that it stands at
pub same_tag : {o : Option Tag} (t u : Tag) → o ≡ Some t → o ≡ Some u → t ≡ u
same_tag t u a b = cc

lift : (ds : List FileRule) (c : FileRule) (p : Front) (t : Tag) (rest : List ℕ) → tag_at rest ≡ Some t → Broken ds c p t (value_at t rest) → FirstBroken (as_rules ds) (file c) p rest
lift [] c p t rest e b = absurd b
lift (d ∷ ds) c p t rest e (inl k) = inl (ap file k.0, λ h. k.1 (h t e))
lift (d ∷ ds) c p t rest e (inr k) = inr (λ u f. subst (λ x. Right d p x (value_at x rest)) (same_tag t u e f) k.0, lift ds c p t rest e k.1)

-- a record that is read
pub record Fine (rest : List ℕ) (q : Piece) : Type 0 where
  pub tag : Tag
  pub tag_is : tag_at rest ≡ Some tag
  pub head : 3 ≤ length rest
  pub long : get_or rest 1 0 * 256 + get_or rest 2 0 ≡ width tag
  pub within : 3 + width tag ≤ length rest
  pub is : q ≡ piece tag (value_at tag rest)

pub fine : (rest : List ℕ) (q : Piece) → first_record rest ≡ Ok q → Fine rest q
fine [] q e = absurd (cc)
fine (b ∷ []) q e = absurd (cc)
fine (b ∷ a ∷ []) q e = absurd (cc)
fine (b ∷ a ∷ d ∷ vs) q e =
    let h = behind_inv (tag_of b) (a * 256 + d) vs q e in
    record { tag = h.0; tag_is = h.1; head = omega arith; long = h.2; within = omega (arith, h.2, h.3); is = h.4 ∙ ap (λ n. piece h.0 (take n vs)) h.2 }

step_faults : (s : Stage) (g : Log) (pre : List ℕ) → Reached s g pre → (rest : List ℕ) (q : Piece) (c : Refusal) → first_record rest ≡ Ok q → stepped s q ≡ Err c → (r : FileRule) × (file_cause r ≡ c) × FirstBroken rules (file r) (front_of s g) rest
step_faults s g pre r rest q c e f =
    let k : Fine rest q = fine rest q e in
    let b = step_broken s g pre r k.tag (value_at k.tag rest) c (sym (ap (stepped s) k.is) ∙ f) in
    let long : Keeps (fields length_right) (front_of s g) rest = λ u h. k.long ∙ ap width (same_tag k.tag u k.tag_is h) in
    let within : Keeps (fields value_whole) (front_of s g) rest = λ u h. subst (λ x. 3 + width x ≤ length rest) (same_tag k.tag u k.tag_is h) k.within in
    (b.0, b.1, inr (k.head, inr ((k.tag, k.tag_is), inr (long, inr (within, lift file_rules b.0 (front_of s g) k.tag rest k.tag_is b.2)))))

-- and one that is not

unread : (x y : Bool) (p : Piece) (c : Refusal) → ◌≡◌ {A = Result Piece Refusal} (cond x (cond y (Err ValueCut) (Ok p)) (Err WrongLength)) (Err c) → ((x ≡ false) × (WrongLength ≡ c)) ⊎ ((x ≡ true) × (y ≡ true) × (ValueCut ≡ c))
unread false y p c e = inl (refl, cc)
unread true true p c e = inr (refl, refl, cc)
unread true false p c e = absurd (cc)

-- the rule of the bytes that is broken first, with what they are refused with
abbrev UnreadBy : Refusal → Front → List ℕ → Type 0
UnreadBy c p rest = (r : FieldsRule) × (fields_cause r ≡ c) × FirstBroken rules (fields r) p rest

headed : (o : Option Tag) (p : Front) (b a d : ℕ) (vs : List ℕ) (c : Refusal) → tag_of b ≡ o → behind_head o (a * 256 + d) vs ≡ Err c → UnreadBy c p (b ∷ a ∷ d ∷ vs)
headed None p b a d vs c o e = (tag_known, cc, inr (omega arith, inl (refl, λ h. let k = h.1 in cc)))
headed (Some t) p b a d vs c o e =
    ⊎_elim
    (λ k. (length_right, k.1, inr (omega arith, inr ((t, o), inl (refl, λ h. eqb-false _ _ k.0 (h t o))))))
    (λ k. (value_whole, k.2, inr (omega arith, inr ((t, o), inr (λ u h. eqb-true _ _ k.0 ∙ ap width (same_tag t u o h), inl (refl, λ h. omega (arith, h t o, ltb-true _ _ k.1, eqb-true _ _ k.0)))))))
    (unread (eqb (a * 256 + d) (width t)) (ltb (length vs) (a * 256 + d)) (piece t (take (a * 256 + d) vs)) c e)

read_faults : (p : Front) (rest : List ℕ) (c : Refusal) → first_record rest ≡ Err c → UnreadBy c p rest
read_faults p [] c e = (head_whole, cc, inl (refl, λ h. omega arith))
read_faults p (b ∷ []) c e = (head_whole, cc, inl (refl, λ h. omega arith))
read_faults p (b ∷ a ∷ []) c e = (head_whole, cc, inl (refl, λ h. omega arith))
read_faults p (b ∷ a ∷ d ∷ vs) c e = headed (tag_of b) p b a d vs c refl e

-- a turn that ends in a fault
placed_err : (n : ℕ) (q : Result Moved Refusal) (x : Fault) → step_placed n q ≡ Err x → (c : Refusal) × (q ≡ Err c) × (x ≡ file_fault c n)
placed_err n (Ok m) x e = absurd (cc)
placed_err n (Err c) x e = (c, refl, cc)

turned_err : (n : ℕ) (s : Stage) (r : Result Piece Refusal) (x : Fault) → turned_by n s (at_place n r) ≡ Err x → ((c : Refusal) × (r ≡ Err c) × (x ≡ fields_fault c n)) ⊎ ((q : Piece) × (r ≡ Ok q) × (step_placed n (stepped s q) ≡ Err x))
turned_err n s (Ok q) x e = inr (q, refl, e)
turned_err n s (Err c) x e = inl (c, refl, cc)

breaks : (s : Stage) (g : Log) (c : Rule) (rest : List ℕ) → ending s ≡ None → FirstBroken rules c (front_of s g) rest → Breaks (front_of s g) c rest
breaks BeforeHeader g c rest e b = b
breaks (Between s) g c rest e b = b
breaks (InBatch s t) g c rest e b = b
breaks (AfterEnd s) g c rest e b = absurd (cc)

fault_at : (n : ℕ) (s : Stage) (g : Log) (bs pre : List ℕ) (x : Fault) (c : Rule) → Reached s g pre → n ≡ length pre → Breaks (front_of s g) c bs → x ≡ fault_of c n → FaultIn (pre ++ bs) x
fault_at n s g bs pre x c r l b e =
    let k = front_stands s g pre r in
    record { front = front_of s g; stands = k.0; rest = bs; wrote = ap (λ p. p ++ bs) k.1; rule = c; breaks = b; fault = e ∙ ap (fault_of c) (l ∙ ap length k.1) }

pub turn_breaks : (n : ℕ) (s : Stage) (g : Log) (bs pre : List ℕ) (x : Fault) → Reached s g pre → turned n s bs ≡ Err x → (c : Rule) × FirstBroken rules c (front_of s g) bs × (x ≡ fault_of c n)
turn_breaks n s g bs pre x r t =
    ⊎_elim
    (λ k. let b = read_faults (front_of s g) bs k.0 k.1 in (fields b.0, b.2, k.2 ∙ ap (λ c. fields_fault c n) (sym b.1)))
    (λ k.
    let f = placed_err n (stepped s k.0) x k.2 in
    let b = step_faults s g pre r bs k.0 f.0 k.1 f.1 in
    (file b.0, b.2, f.2 ∙ ap (λ c. file_fault c n) (sym b.1)))
    (turned_err n s (first_record bs) x t)

turn_fault : (n : ℕ) (s : Stage) (g : Log) (bs pre : List ℕ) (x : Fault) → Reached s g pre → n ≡ length pre → ending s ≡ None → turned n s bs ≡ Err x → FaultIn (pre ++ bs) x
turn_fault n s g bs pre x r l e t = let k = turn_breaks n s g bs pre x r t in fault_at n s g bs pre x k.0 r l (breaks s g k.0 bs e k.1) k.2

onward_err : (o : Option Header) (q : Result Moved Fault) (end : Header → Verdict) (go : Moved → Verdict) (x : Fault) → o ≡ None → onward o q end go ≡ Err x → ((m : Moved) × (q ≡ Ok m) × (go m ≡ Err x)) ⊎ (q ≡ Err x)
onward_err (Some h) q end go x n e = absurd (cc)
onward_err None (Ok m) end go x n e = inl (m, refl, e)
onward_err None (Err y) end go x n e = inr (cc)

fail_step : (k : ℕ) (s : Stage) (g : Log) (n : ℕ) (bs pre : List ℕ) (x : Fault) → Octets bs → Reached s g pre → n ≡ length pre → ending s ≡ None → run (suc k) s g n bs ≡ Err x → ((m : Moved) (w : Onward s g pre bs m) → n + gone bs ≡ length w.whole → length (drop (gone bs) bs) < length bs → run k m.stage (logged s m g) (n + gone bs) (drop (gone bs) bs) ≡ Err x → FaultIn (w.whole ++ drop (gone bs) bs) x) → FaultIn (pre ++ bs) x
fail_step k s g n bs pre x o r l e f next =
    ⊎_elim
    (λ q.
    let w : Onward s g pre bs q.0 = on n s bs q.0 g pre o r q.1 in
    let p = turned_ok n s bs q.0 q.1 in
    subst (λ b. FaultIn b x) w.wrote (next q.0 w (omega (arith, w.far)) (less bs p.0 p.1) q.2))
    (turn_fault n s g bs pre x r l e)
    (onward_err (ending s) (turned n s bs) _ _ x e f)

end_fault : (h : Header) (g : Log) (n : ℕ) (bs : List ℕ) (x : Fault) → ended h g n bs ≡ Err x → (0 < length bs) × (x ≡ fault_of (file in_order) n)
end_fault h g n [] x e = absurd (cc)
end_fault h g n (b ∷ bs) x e = (omega arith, cc)

fail_run : (k : ℕ) (s : Stage) (g : Log) (n : ℕ) (bs pre : List ℕ) (x : Fault) → Octets bs → Reached s g pre → n ≡ length pre → length bs < k → run k s g n bs ≡ Err x → FaultIn (pre ++ bs) x
fail_run zero s g n bs pre x o r l f e = absurd (omega arith)
fail_run (suc k) BeforeHeader g n bs pre x o r l f e = fail_step k BeforeHeader g n bs pre x o r l refl e (λ m w a b h. fail_run k m.stage (logged BeforeHeader m g) (n + gone bs) (drop (gone bs) bs) w.whole x w.octets w.reached a (omega arith) h)
fail_run (suc k) (Between s) g n bs pre x o r l f e = fail_step k (Between s) g n bs pre x o r l refl e (λ m w a b h. fail_run k m.stage (logged (Between s) m g) (n + gone bs) (drop (gone bs) bs) w.whole x w.octets w.reached a (omega arith) h)
fail_run (suc k) (InBatch s t) g n bs pre x o r l f e = fail_step k (InBatch s t) g n bs pre x o r l refl e (λ m w a b h. fail_run k m.stage (logged (InBatch s t) m g) (n + gone bs) (drop (gone bs) bs) w.whole x w.octets w.reached a (omega arith) h)
fail_run (suc k) (AfterEnd s) g n bs pre x o r l f e = let q = end_fault s.header g n bs x e in fault_at n (AfterEnd s) g bs pre x (file in_order) r l (refl, q.0) q.1

pub refuses : (bs : List ℕ) (x : Fault) → Octets bs → judge bs ≡ Err x → Refused bs x
refuses bs x o e =
    ⊎_elim
    (λ long. inl (long, let j = judge_long bs long in cc))
    (λ short. inr (short, fail_run (suc (length bs)) BeforeHeader blank 0 bs [] x o (refl, refl) refl (omega arith) (sym (judge_short bs short) ∙ e)))
    (order 65535 (length bs))
