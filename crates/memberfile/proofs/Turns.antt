-- What one turn of the check keeps.
use Rattle.std.proofs.Common.{◌≡◌, ℕ, suc, ◌+◌, ◌-◌, ◌<◌, ◌≤◌, List, [], ◌∷◌, ◌++◌, length, drop, Some, None, Ok, Err, Option, Result, OnOk, sym, refl, ap, ◌∙◌, subst, append_assoc, append-nil, arith, length-append, drop_of_length-le, drop-cons, drop-drop, le-ltb, lt-ltb}
use Rattle.std.specs.Option.{option_to_list}
use Rattle.wire.specs.Records.{first_record, at_place, Piece}
use Rattle.wire.specs.Rows.{presentations, presented}
use Rattle.memberfile.specs.Stages.{Room, RoomSofar, goes_to, shut_batch, step_placed, stepped, took}
use Rattle.memberfile.specs.Layout.{BatchValue, all_rows}
use Rattle.memberfile.specs.Judge.{gone_by, gone, turned_by, turned, Log, blank, logged_row, logged_in, logged, ended, ending, judge, run, disorder, too_long, summed}
use Rattle.terms.specs.declared.refusal.Refusal.{Refusal}
use Rattle.wire.specs.declared.record.Tag.{Tag}
use Rattle.wire.specs.declared.record.Tag.TheVariants.{FileHeader, BatchHeader, Presentation as t_presentation, Return as t_return, BatchEnd, FileEnd}
use Rattle.wire.specs.declared.row.Row.{Row}
use Rattle.memberfile.specs.declared.stage.Moved.{Moved}
use Rattle.memberfile.specs.declared.stage.Stage.{Stage}
use Rattle.memberfile.specs.declared.stage.Stage.TheVariants.{BeforeHeader, Between, InBatch, AfterEnd}
use Rattle.terms.specs.declared.fault.Fault.{Fault}
use Rattle.memberfile.proofs.Steps.{Steps, steps}
use Rattle.memberfile.specs.declared.stage.Sofar.{Sofar as Sofar'}
use Rattle.memberfile.specs.declared.stage.OpenBatch.{OpenBatch}

pub gone_at_place : (n : ℕ) (r : Result Piece Refusal) → gone_by (at_place n r) ≡ gone_by r
gone_at_place n (Ok p) = refl
gone_at_place n (Err c) = refl

room_sofar : (a b : ℕ) (s : Sofar') → a ≤ b → RoomSofar a s → RoomSofar b s
room_sofar a b s l r = (r.0, omega (arith, r.1), omega (arith, r.2), omega (arith, r.3))

pub room_more : (a b : ℕ) (s : Stage) → a ≤ b → Room a s → Room b s
room_more a b BeforeHeader l r = tt
room_more a b (Between s) l r = room_sofar a b s l r
room_more a b (InBatch s t) l r = (room_sofar a b s l r.0, r.1, omega (arith, r.2))
room_more a b (AfterEnd h) l r = tt

pub on_ok : {T E P : Type 0} (r : Result T E) → P → OnOk r P
on_ok (Ok x) p = p
on_ok (Err e) p = tt

-- a turn that is taken: the bytes begin with a record, whose step is taken
taken_by : (n : ℕ) (q : Result Moved Refusal) (m : Moved) → step_placed n q ≡ Ok m → q ≡ Ok m
taken_by n (Ok p) m e = cc
taken_by n (Err c) m e = absurd (cc)

turned_by_lem : (n : ℕ) (s : Stage) (r : Result Piece Refusal) (m : Moved) → turned_by n s (at_place n r) ≡ Ok m → (p : Piece) × (r ≡ Ok p) × (stepped s p ≡ Ok m)
turned_by_lem n s (Ok p) m e = (p, refl, taken_by n (stepped s p) m e)
turned_by_lem n s (Err c) m e = absurd (cc)

pub turned_ok : (n : ℕ) (s : Stage) (bs : List ℕ) (m : Moved) → turned n s bs ≡ Ok m → (p : Piece) × (first_record bs ≡ Ok p) × (stepped s p ≡ Ok m)
turned_ok n s bs m e = turned_by_lem n s (first_record bs) m e

pub gone_far : (n : ℕ) (s : Stage) (bs : List ℕ) (m : Moved) → turned n s bs ≡ Ok m → 3 ≤ gone bs
gone_far n s bs m e = let p = turned_ok n s bs m e in omega (arith, ap gone_by p.1)

-- the rows of a log
abbrev pub rows_of : Log → List Row
rows_of g = all_rows g.closed ++ g.held

pub all_rows-++ : (xs ys : List BatchValue) → all_rows (xs ++ ys) ≡ all_rows xs ++ all_rows ys
all_rows-++ [] ys = refl
all_rows-++ (x ∷ xs) ys = ap (λ l. x.rows ++ l) (all_rows-++ xs ys) ∙ sym (append_assoc x.rows (all_rows xs) (all_rows ys))

rows_logged_row : (o : Option Row) (g : Log) → rows_of (logged_row o g) ≡ rows_of g ++ option_to_list o
rows_logged_row (Some r) g = sym (append_assoc (all_rows g.closed) g.held (r ∷ []))
rows_logged_row None g = sym (append-nil (rows_of g))

rows_logged_in : (n : ℕ) (o : Option Row) (g : Log) → rows_of (logged_in n o g) ≡ rows_of g ++ option_to_list o
rows_logged_in n (Some r) g = sym (append_assoc (all_rows g.closed) g.held (r ∷ []))
rows_logged_in n None g = append-nil _ ∙ all_rows-++ g.closed _ ∙ ap (λ l. all_rows g.closed ++ l) (append-nil g.held) ∙ sym (append-nil (rows_of g))

pub rows_logged : (s : Stage) (m : Moved) (g : Log) → rows_of (logged s m g) ≡ rows_of g ++ option_to_list m.row
rows_logged BeforeHeader m g = rows_logged_row m.row g
rows_logged (Between a) m g = rows_logged_row m.row g
rows_logged (InBatch a b) m g = rows_logged_in b.number m.row g
rows_logged (AfterEnd h) m g = rows_logged_row m.row g

pub presented-++ : (xs ys : List Row) → presented (xs ++ ys) ≡ presented xs + presented ys
presented-++ [] ys = omega arith
presented-++ (x ∷ xs) ys = ap (λ n. presentations x + n) (presented-++ xs ys) ∙ omega arith

-- the counters of a file count what is logged
pub record Counts (s : Sofar') (g : Log) : Type 0 where
  pub batches : s.batches ≡ length g.closed
  pub rows : s.totals.count ≡ length (rows_of g)
  pub presentations : s.presentations ≡ presented (rows_of g)

-- the counters count what is logged, and no row is held but in a batch
abbrev pub Shut : Stage → Log → Type 0
Shut BeforeHeader g = g ≡ blank
Shut (Between s) g = (g.held ≡ []) × Counts s g
Shut (InBatch s b) g = Counts s g
Shut (AfterEnd s) g = (g.held ≡ []) × Counts s g

shut_to : (s : Stage) (g : Log) (m x : Moved) → m ≡ x → Shut x.stage (logged s x g) → Shut m.stage (logged s m g)
shut_to s g m x e h = subst (λ y. Shut y.stage (logged s y g)) (sym e) h

row_counts : (s : Sofar') (b : OpenBatch) (r : Row) (g : Log) → Counts s g → Shut (took s b r).stage (logged (InBatch s b) (took s b r) g)
row_counts s b r g h =
    let all : rows_of (logged (InBatch s b) (took s b r) g) ≡ rows_of g ++ (r ∷ []) = rows_logged (InBatch s b) (took s b r) g in
    record {
      batches = h.batches;
      rows = ap (λ n. n + 1) h.rows ∙ sym (ap length all ∙ length-append (rows_of g) (r ∷ []));
      presentations = ap (λ n. n + presentations r) h.presentations ∙ sym (ap presented all ∙ presented-++ (rows_of g) (r ∷ []) ∙ omega arith);
    }

shut_counts : (s : Sofar') (b : OpenBatch) (g : Log) → Counts s g → Counts (shut_batch s b) (logged (InBatch s b) (goes_to (Between (shut_batch s b))) g)
shut_counts s b g h =
    let all : rows_of (logged (InBatch s b) (goes_to (Between (shut_batch s b))) g) ≡ rows_of g = rows_logged (InBatch s b) (goes_to (Between (shut_batch s b))) g ∙ append-nil (rows_of g) in
    record {
      batches = ap (λ n. n + 1) h.batches ∙ sym (length-append g.closed _);
      rows = h.rows ∙ sym (ap length all);
      presentations = h.presentations ∙ sym (ap presented all);
    }

shut_by : (s : Stage) (t : Tag) (v : List ℕ) (m : Moved) (g : Log) → Steps s t v m → Shut s g → Shut m.stage (logged s m g)
shut_by BeforeHeader FileHeader v m g e h = shut_to BeforeHeader g m _ e.2 (ap (λ x. x.held) h, record { batches = sym (ap (λ x. length x.closed) h); rows = sym (ap (λ x. length (rows_of x)) h); presentations = sym (ap (λ x. presented (rows_of x)) h) })
shut_by (Between s) BatchHeader v m g e h = shut_to (Between s) g m _ e.2 h.1
shut_by (Between s) FileEnd v m g e h = shut_to (Between s) g m _ e.1 h
shut_by (InBatch s b) t_presentation v m g e h = shut_to (InBatch s b) g m _ e.1 (row_counts s b _ g h)
shut_by (InBatch s b) t_return v m g e h = shut_to (InBatch s b) g m _ e.1 (row_counts s b _ g h)
shut_by (InBatch s b) BatchEnd v m g e h = shut_to (InBatch s b) g m _ e.2 (refl, shut_counts s b g h)
shut_by BeforeHeader BatchHeader v m g e h = absurd e
shut_by BeforeHeader t_presentation v m g e h = absurd e
shut_by BeforeHeader t_return v m g e h = absurd e
shut_by BeforeHeader BatchEnd v m g e h = absurd e
shut_by BeforeHeader FileEnd v m g e h = absurd e
shut_by (Between s) FileHeader v m g e h = absurd e
shut_by (Between s) t_presentation v m g e h = absurd e
shut_by (Between s) t_return v m g e h = absurd e
shut_by (Between s) BatchEnd v m g e h = absurd e
shut_by (InBatch s b) FileHeader v m g e h = absurd e
shut_by (InBatch s b) BatchHeader v m g e h = absurd e
shut_by (InBatch s b) FileEnd v m g e h = absurd e
shut_by (AfterEnd a) t v m g e h = absurd e

pub shut_on : (n : ℕ) (s : Stage) (bs : List ℕ) (m : Moved) (g : Log) → turned n s bs ≡ Ok m → Shut s g → Shut m.stage (logged s m g)
shut_on n s bs m g e h = let p = turned_ok n s bs m e in shut_by s p.0.tag p.0.value m g (steps s p.0.tag p.0.value m p.2) h

-- the check has come to place n of the bytes in stage s
pub record Sofar (bs : List ℕ) (s : Stage) (n : ℕ) : Type 0 where
  pub within : n ≤ length bs
  pub room : Room n s
  pub log : Log
  pub shut : Shut s log
  pub left : ℕ
  pub enough : length bs < n + left
  pub same : judge bs ≡ run left s log n (drop n bs)

pub judge_long : (bs : List ℕ) → 65535 < length bs → judge bs ≡ Err too_long
unfolding judge
judge_long bs h = rw (lt-ltb 65535 (length bs) h)

pub judge_short : (bs : List ℕ) → length bs ≤ 65535 → judge bs ≡ run (suc (length bs)) BeforeHeader blank 0 bs
unfolding judge
judge_short bs h = rw (le-ltb 65535 (length bs) h)

pub begins : (bs : List ℕ) {n : ℕ} → length bs ≤ 65535 → n ≡ 0 → Sofar bs BeforeHeader n
begins bs {n} h z = subst (λ i. Sofar bs BeforeHeader i) (sym z) (record { within = omega arith; room = tt; log = blank; shut = refl; left = suc (length bs); enough = omega arith; same = judge_short bs h })

pub not_ending : (s : Stage) → ((a : Sofar') → s ≡ AfterEnd a → ⊥) → ending s ≡ None
not_ending BeforeHeader no_end = refl
not_ending (Between a) no_end = refl
not_ending (InBatch a b) no_end = refl
not_ending (AfterEnd a) no_end = absurd (no_end a refl)

-- one step of the run, where the stage is not the last
pub run_on : (k : ℕ) (s : Stage) (g : Log) (n : ℕ) (bs : List ℕ) (m : Moved) → ending s ≡ None → turned n s bs ≡ Ok m → run (suc k) s g n bs ≡ run k m.stage (logged s m g) (n + gone bs) (drop (gone bs) bs)
run_on k s g n bs m e t = rw (e, t)

pub run_off : (k : ℕ) (s : Stage) (g : Log) (n : ℕ) (bs : List ℕ) (f : Fault) → ending s ≡ None → turned n s bs ≡ Err f → run (suc k) s g n bs ≡ Err f
run_off k s g n bs f e t = rw (e, t)

module _ {bs : List ℕ} {s : Stage} {n : ℕ} (so : Sofar bs s n) where
  one_left : (k : ℕ) × (so.left ≡ suc k)
  one_left = (so.left - 1, omega (arith, so.within, so.enough))

  pub refused : (f : Fault) → ((a : Sofar') → s ≡ AfterEnd a → ⊥) → turned n s (drop n bs) ≡ Err f → judge bs ≡ Err f
  refused f no_end t = so.same ∙ ap (λ k. run k s so.log n (drop n bs)) one_left.1 ∙ run_off one_left.0 s so.log n (drop n bs) f (not_ending s no_end) t

  pub goes_on : (m : Moved) → ((a : Sofar') → s ≡ AfterEnd a → ⊥) → turned n s (drop n bs) ≡ Ok m → (k : ℕ) → k ≡ n + gone (drop n bs) → k ≤ length bs → Room k m.stage → Sofar bs m.stage k
  goes_on m no_end t k e within room =
      let far : 3 ≤ gone (drop n bs) = gone_far n s (drop n bs) m t in
      let g : Log = logged s m so.log in
      record {
        within = within;
        room = room;
        log = g;
        shut = shut_on n s (drop n bs) m so.log t so.shut;
        left = one_left.0;
        enough = omega (arith, so.enough, one_left.1);
        same = so.same ∙ ap (λ i. run i s so.log n (drop n bs)) one_left.1 ∙ run_on one_left.0 s so.log n (drop n bs) m (not_ending s no_end) t ∙ ap (λ l. run one_left.0 m.stage g (n + gone (drop n bs)) l) (drop-drop (gone (drop n bs)) n bs) ∙ ap (λ i. run one_left.0 m.stage g i (drop i bs)) (sym e);
      }

  -- the same, of a reader's bytes
  pub refused_at_lem : (f : Fault) (rb : List ℕ) → rb ≡ bs → ((a : Sofar') → s ≡ AfterEnd a → ⊥) → Err f ≡ turned n s (drop n rb) → judge bs ≡ Err f
  refused_at_lem f rb e no_end t = refused f no_end (sym (t ∙ ap (λ b. turned n s (drop n b)) e))

  pub goes_on_at : (m : Moved) (rb : List ℕ) → rb ≡ bs → ((a : Sofar') → s ≡ AfterEnd a → ⊥) → Ok m ≡ turned n s (drop n rb) → (k : ℕ) → k ≡ n + gone (drop n rb) → k ≤ length rb → Room k m.stage → Sofar bs m.stage k
  goes_on_at m rb e no_end t k far within room = goes_on m no_end (sym (t ∙ ap (λ b. turned n s (drop n b)) e)) k (far ∙ ap (λ b. n + gone (drop n b)) e) (subst (λ b. k ≤ length b) e within) room

  at_end : (a : Sofar') → s ≡ AfterEnd a → judge bs ≡ ended a.header so.log n (drop n bs)
  at_end a e = so.same ∙ ap (λ k. run k s so.log n (drop n bs)) one_left.1 ∙ ap (λ t. run (suc one_left.0) t so.log n (drop n bs)) e

  pub accepted : (a : Sofar') → s ≡ AfterEnd a → length bs ≤ n → Ok (record { header = a.header; batches = a.batches; rows = a.totals.count; presentations = a.presentations }) ≡ summed (judge bs)
  accepted a e l =
      let h : (so.log.held ≡ []) × Counts a so.log = subst (λ t. Shut t so.log) e so.shut in
      let all : rows_of so.log ≡ all_rows so.log.closed = ap (λ o. all_rows so.log.closed ++ o) h.0 ∙ append-nil (all_rows so.log.closed) in
      (λ i. Ok (record { header = a.header; batches = h.1.batches i; rows = (h.1.rows ∙ ap length all) i; presentations = (h.1.presentations ∙ ap presented all) i })) ∙ sym (ap summed (at_end a e ∙ ap (ended a.header so.log n) (drop_of_length-le bs l)))

  pub behind_end : (a : Sofar') → s ≡ AfterEnd a → n < length bs → judge bs ≡ Err (disorder n)
  behind_end a e l = at_end a e ∙ ap (ended a.header so.log n) (drop-cons bs n 0 l)
