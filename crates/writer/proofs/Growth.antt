-- What each record written makes of the file or the batch that a buffer stands for.
use Rattle.std.proofs.Common.{◌≡◌, ℕ, ◌+◌, ◌<◌, ◌≤◌, Bool, true, false, cond, List, [], ◌∷◌, ◌++◌, length, take, drop, Some, None, Option, sym, refl, ap, ◌∙◌, subst, append_assoc, append-nil, arith, length-append, length-drop, take_at, ltb-false, ltb-true, leb-false, leb-true}
use native.Mathlib.Nat.{min-le_left, min-le_right}
use borrow.Author.Tests.{both_ways}
use Rattle.terms.specs.declared.file_kind.FileKind.{FileKind}
use Rattle.terms.specs.declared.refusal.Refusal.{Refusal}
use Rattle.wire.specs.Rows.{is_of, no_totals, plus, tally}
use Rattle.wire.specs.declared.record.Tag.TheVariants.{BatchEnd, FileEnd}
use Rattle.wire.specs.declared.row.Row.{Row}
use Rattle.memberfile.specs.Judge.{judge}
use Rattle.memberfile.specs.Layout.{BatchValue, FileValue, FitsRow, FitsTotals, Formed, all_rows, enc_batch_end, enc_batch_head, enc_batches, enc_closing, enc_file_end, enc_file_head, enc_record, enc_row, enc_rows, encode}
use Rattle.exactness.proofs.Complete.{accepts}
use Rattle.pen.proofs.Lent.{wrote_as, wrote_front, wrote_more}
use Rattle.writer.proofs.Longer.{row_bytes, rows_more, batches_more, all_rows_more, tally_more, last_more, formed_rows_more, formed_batches_more}
use Rattle.pen.specs.Buffer.{written, Wrote, fronted}
use Rattle.writer.specs.Drafts.{FileDraft, refused, drafted, BatchDraft, turned, drafting, batch_check, batch_check_at, begun, begun_with, blank_batch, bound, closed, end_due, extended, extended_by, first_of, put_check, row_check_at, started, started_by, with_batch, with_row}
use Rattle.writer.specs.Records.{enc_batch_head_of}
use Rattle.writer.specs.Stands.{Done, Stands, StandsIn, Upto, Within}
use Rattle.writer.specs.Steps.{batched, closed_at, rowed}
use Rattle.writer.specs.declared.progress.Progress.{Progress}

-- a bound is no more than the buffer has, and no more than a file may have
pub bound_buffer : (k n : ℕ) → k ≤ bound n → k ≤ n
bound_buffer k n h = omega (arith, min-le_left n 65535)

pub bound_file : (k n : ℕ) → k ≤ bound n → k ≤ 65535
bound_file k n h = omega (arith, min-le_right n 65535)

fronted_size : (ys old : List ℕ) → length ys ≤ length old → length (fronted ys old) ≡ length old
fronted_size ys old h = simp (length-append, length-drop) (omega arith)

-- what is in front was written from the start on
front_wrote : (ys old out : List ℕ) (n : ℕ) → length ys ≤ length old → out ≡ fronted ys old → n ≡ length ys → Wrote old 0 ys out n
unfolding written
front_wrote ys old out n h e l = record { room = omega arith; bytes = e ∙ ap (λ k. ys ++ drop k old) (omega arith); place = omega arith; size = ap length e ∙ fronted_size ys old h }

-- a piece behind the front lengthens it
lengthens : (ys zs old out out' : List ℕ) (n n' : ℕ) → n ≤ length old → out ≡ fronted ys old → n ≡ length ys → Wrote out n zs out' n' → out' ≡ fronted (ys ++ zs) old
lengthens ys zs old out out' n n' h e l w = wrote_front (wrote_more (front_wrote ys old out n (omega arith) e l) w)

upto_size : (f : FileValue) (old out : List ℕ) (p : Progress) → Upto f old out p → length out ≡ length old
upto_size f old out p s = ap length s.bytes ∙ fronted_size (begun f) old (omega (arith, bound_buffer _ _ s.room, s.len))

within_size : (f : FileValue) (b : BatchValue) (old out : List ℕ) (p : Progress) → Within f b old out p → length out ≡ length old
within_size f b old out p s = ap length s.bytes ∙ fronted_size (begun_with f b) old (omega (arith, bound_buffer _ _ s.room, s.len))

-- the check on what is written is the check on the draft
pub same_check : (d : FileDraft) (old out : List ℕ) (p : Progress) (n : ℕ) → Stands d old out p → first_of p.refused (batch_check_at (bound (length out)) p.len p.last n) ≡ batch_check (bound (length old)) d n
same_check (refused c) old out p n s = ap (λ o. first_of o (batch_check_at (bound (length out)) p.len p.last n)) s.2
same_check (drafted f) old out p n s =
    ap (λ o. first_of o (batch_check_at (bound (length out)) p.len p.last n)) s.on
    ∙ (λ i. batch_check_at (bound (upto_size f old out p s i)) (s.len i) (s.last i) n)

pub same_put : (d : BatchDraft) (old out : List ℕ) (p : Progress) (o : Option Refusal) (r : Row) → StandsIn d old out p o → first_of o (row_check_at (bound (length out)) p.len p.kind r) ≡ put_check (bound (length old)) d r
same_put (turned c d) old out p o r s = ap (λ v. first_of v (row_check_at (bound (length out)) p.len p.kind r)) s.1
same_put (drafting f b) old out p o r s =
    ap (λ v. first_of v (row_check_at (bound (length out)) p.len p.kind r)) s.1
    ∙ (λ i. row_check_at (bound (within_size f b old out p s.0 i)) (s.0.len i) (s.0.kind i) r)

-- what a check that refuses nothing tells
some_none : (c : Refusal) → Some c ≡ None → ⊥
some_none c e = let z : ◌≡◌ {A = ℕ} 0 1 = cc in omega arith

pub else_none : (b : Bool) (o : Option Refusal) (c : Refusal) → cond b o (Some c) ≡ None → (b ≡ true) × (o ≡ None)
else_none true o c e = (refl, e)
else_none false o c e = absurd (some_none c e)

then_none : (b : Bool) (o : Option Refusal) (c : Refusal) → cond b (Some c) o ≡ None → (b ≡ false) × (o ≡ None)
then_none true o c e = absurd (some_none c e)
then_none false o c e = (refl, e)

first_none : (a o : Option Refusal) → first_of a o ≡ None → o ≡ None
first_none (Some c) o e = absurd (some_none c e)
first_none None o e = e

pub number_free : (room len last n : ℕ) (o : Option Refusal) → first_of o (batch_check_at room len last n) ≡ None → (last < n) × (len + 60 ≤ room)
number_free room len last n o e =
    let a = else_none _ _ _ (first_none o _ e) in
    (ltb-true _ _ a.0, ltb-false _ _ (then_none _ _ _ a.1).0)

pub row_free : (room len : ℕ) (k : FileKind) (r : Row) (o : Option Refusal) → first_of o (row_check_at room len k r) ≡ None → (len + 70 ≤ room) × (is_of k r ≡ true)
row_free room len k r o e =
    let a = then_none _ _ _ (first_none o _ e) in
    (ltb-false _ _ a.0, (else_none _ _ _ a.1).0)

-- a batch opened against its check
pub turned_away : (d : FileDraft) (old out : List ℕ) (p : Progress) (n : ℕ) (c : Refusal) → first_of p.refused (batch_check_at (bound (length out)) p.len p.last n) ≡ Some c → Stands d old out p → StandsIn (started (bound (length old)) d n) old out p (Some c)
turned_away d old out p n c e s = subst (λ o. StandsIn (started_by o d n) old out p (Some c)) (sym (sym (same_check d old out p n s) ∙ e)) (s, refl)

opened_within : (f : FileValue) (old out out' : List ℕ) (p : Progress) (n m : ℕ) → Upto f old out p → p.last < n → n < 65536 → p.len + 60 ≤ bound (length out) → Wrote out p.len (enc_batch_head_of p.kind n) out' m → Within f (blank_batch n) old out' (batched p n)
opened_within f old out out' p n m s a small space w =
    let z = upto_size f old out p s in
    let fits : p.len + 60 ≤ bound (length old) = subst (λ k. p.len + 60 ≤ bound k) z space in
    record {
      bytes = lengthens (begun f) (enc_batch_head_of p.kind n) old out out' p.len m (omega (arith, bound_buffer _ _ fits)) s.bytes s.len w ∙ ap (λ k. fronted (begun f ++ enc_batch_head_of k n) old) s.kind;
      len = ap (λ k. k + 6) s.len ∙ sym (length-append (begun f) (enc_batch_head f.header n));
      room = omega (arith, fits);
      on = s.on;
      kind = s.kind;
      batches = s.batches;
      last = refl;
      totals = s.totals ∙ ap (λ l. tally no_totals l) (sym (append-nil (all_rows f.batches)));
      held = refl;
      header = s.header;
      formed = s.formed;
      above = subst (λ k. k < n) s.last a;
      fits = small;
      rows = tt;
    }

-- a batch opened
pub batch_opened_lem : (d : FileDraft) (old out out' : List ℕ) (p q : Progress) (n m : ℕ) → first_of p.refused (batch_check_at (bound (length out)) p.len p.last n) ≡ None → n < 65536 → q ≡ batched p n → Wrote out p.len (enc_batch_head_of p.kind n) out' m → Stands d old out p → StandsIn (started (bound (length old)) d n) old out' q None
batch_opened_lem (refused c) old out out' p q n m e small g w s = absurd (some_none c (sym (same_check (refused c) old out p n s) ∙ e))
batch_opened_lem (drafted f) old out out' p q n m e small g w s =
    let a = number_free _ _ _ _ p.refused e in
    let t : Within f (blank_batch n) old out' q = subst (λ v. Within f (blank_batch n) old out' v) (sym g) (opened_within f old out out' p n m s a.0 small a.1 w) in
    subst (λ o. StandsIn (started_by o (drafted f) n) old out' q None) (sym (sym (same_check (drafted f) old out p n s) ∙ e)) (t, refl)

put_within : (f : FileValue) (b : BatchValue) (old out out' : List ℕ) (p : Progress) (r : Row) (m : ℕ) → Within f b old out p → p.len + 70 ≤ bound (length out) → is_of p.kind r ≡ true → FitsRow r → Wrote out p.len (enc_row r) out' m → Within f (with_row b r) old out' (rowed p r)
put_within f b old out out' p r m s space of small w =
    let z = within_size f b old out p s in
    let fits : p.len + 70 ≤ bound (length old) = subst (λ k. p.len + 70 ≤ bound k) z space in
    let more : begun_with f b ++ enc_row r ≡ begun_with f (with_row b r) =
    append_assoc (begun f) _ (enc_row r) ∙ ap (λ l. begun f ++ l) (append_assoc (enc_batch_head f.header b.number) (enc_rows b.rows) (enc_row r) ∙ ap (λ l. enc_batch_head f.header b.number ++ l) (sym (rows_more b.rows r))) in
    record {
      bytes = lengthens (begun_with f b) (enc_row r) old out out' p.len m (omega (arith, bound_buffer _ _ fits)) s.bytes s.len w ∙ ap (λ l. fronted l old) more;
      len = ap (λ k. k + 16) s.len ∙ ap (λ k. length (begun_with f b) + k) (sym (row_bytes r)) ∙ sym (length-append (begun_with f b) (enc_row r)) ∙ ap length more;
      room = omega (arith, fits);
      on = s.on;
      kind = s.kind;
      batches = s.batches;
      last = s.last;
      totals = ap (λ t. plus t r) s.totals ∙ sym (tally_more no_totals (all_rows f.batches ++ b.rows) r) ∙ ap (λ l. tally no_totals l) (append_assoc (all_rows f.batches) b.rows (r ∷ []));
      held = ap (λ t. plus t r) s.held ∙ sym (tally_more no_totals b.rows r);
      header = s.header;
      formed = s.formed;
      above = s.above;
      fits = s.fits;
      rows = formed_rows_more f.header.kind b.rows r s.rows small (ap (λ k. is_of k r) (sym s.kind) ∙ of);
    }

-- a row put
pub row_put : (d : BatchDraft) (old out out' : List ℕ) (p q : Progress) (o : Option Refusal) (r : Row) (m : ℕ) → first_of o (row_check_at (bound (length out)) p.len p.kind r) ≡ None → FitsRow r → q ≡ rowed p r → Wrote out p.len (enc_row r) out' m → StandsIn d old out p o → StandsIn (extended (bound (length old)) d r) old out' q o
row_put (turned c d) old out out' p q o r m e small g w s = absurd (some_none c (sym (same_put (turned c d) old out p o r s) ∙ e))
row_put (drafting f b) old out out' p q o r m e small g w s =
    let a = row_free (bound (length out)) p.len p.kind r o e in
    let t : Within f (with_row b r) old out' q = subst (λ v. Within f (with_row b r) old out' v) (sym g) (put_within f b old out out' p r m s.0 a.0 a.1 small w) in
    subst (λ v. StandsIn (extended_by v (drafting f b) r) old out' q o) (sym (sym (same_put (drafting f b) old out p o r s) ∙ e)) (t, s.1)

-- no end is due only where the opening was refused
due_none : (o : Option Refusal) (n len : ℕ) → end_due o n len ≡ false → o ≡ None → len + 27 ≤ bound n → ⊥
due_none (Some c) n len e q h = some_none c q
due_none None n len e q h = omega (arith, leb-false _ _ e)

due_on : (o : Option Refusal) (n len : ℕ) → end_due o n len ≡ true → o ≡ None
due_on (Some c) n len e = absurd (both_ways false refl e)
due_on None n len e = refl

pub due_space : (o : Option Refusal) (n len : ℕ) → end_due o n len ≡ true → len + 27 ≤ bound n
due_space (Some c) n len e = absurd (both_ways false refl e)
due_space None n len e = leb-true _ _ e

-- a batch opened against its check, closed
pub left_open : (d : BatchDraft) (old out : List ℕ) (p : Progress) (o : Option Refusal) → end_due o (length out) p.len ≡ false → StandsIn d old out p o → Stands (closed d) old out p
left_open (turned c d) old out p o e s = s.0
left_open (drafting f b) old out p o e s = absurd (due_none o _ _ e s.1 (subst (λ k. p.len + 27 ≤ bound k) (sym (within_size f b old out p s.0)) (omega (arith, s.0.room))))

closed_upto : (f : FileValue) (b : BatchValue) (old out out' : List ℕ) (p : Progress) (m : ℕ) → Within f b old out p → FitsTotals p.held → Wrote out p.len (enc_record BatchEnd (enc_closing p.last p.held)) out' m → Upto (with_batch f b) old out' (closed_at p)
closed_upto f b old out out' p m s small w =
    let h = f.header in
    let head = enc_batch_head h b.number in
    let end = enc_batch_end b.number b.rows in
    let wrote : Wrote out p.len end out' m = wrote_as (sym (λ i. enc_record BatchEnd (enc_closing (s.last i) (s.held i)))) w in
    let more : begun_with f b ++ end ≡ begun (with_batch f b) =
    append_assoc (begun f) (head ++ enc_rows b.rows) end ∙ ap (λ l. begun f ++ l) (append_assoc head (enc_rows b.rows) end) ∙ append_assoc (enc_file_head h) (enc_batches h f.batches) _ ∙ ap (λ l. enc_file_head h ++ l) (sym (batches_more h f.batches b)) in
    record {
      bytes = lengthens (begun_with f b) end old out out' p.len m (omega (arith, bound_buffer _ _ s.room)) s.bytes s.len wrote ∙ ap (λ l. fronted l old) more;
      len = ap (λ k. k + 27) s.len ∙ sym (length-append (begun_with f b) end) ∙ ap length more;
      room = omega (arith, s.room);
      on = s.on;
      kind = s.kind;
      batches = ap (λ k. k + 1) s.batches ∙ sym (length-append f.batches (b ∷ []));
      last = s.last ∙ sym (last_more 0 f.batches b);
      totals = s.totals ∙ ap (λ l. tally no_totals l) (sym (all_rows_more f.batches b));
      header = s.header;
      formed = formed_batches_more f.header.kind 0 f.batches b s.formed s.above s.fits s.rows (subst FitsTotals s.held small);
    }

-- a batch closed
pub batch_closed_lem : (d : BatchDraft) (old out out' : List ℕ) (p q : Progress) (o : Option Refusal) (m : ℕ) → end_due o (length out) p.len ≡ true → FitsTotals p.held → q ≡ closed_at p → Wrote out p.len (enc_record BatchEnd (enc_closing p.last p.held)) out' m → StandsIn d old out p o → Stands (closed d) old out' q
batch_closed_lem (turned c d) old out out' p q o m e small g w s = absurd (some_none c (sym s.1 ∙ due_on o _ _ e))
batch_closed_lem (drafting f b) old out out' p q o m e small g w s = subst (λ v. Upto (with_batch f b) old out' v) (sym g) (closed_upto f b old out out' p m s.0 small w)

-- a file opened against its check, finished
pub left_bare : (d : FileDraft) (old out : List ℕ) (p : Progress) → end_due p.refused (length out) p.len ≡ false → Stands d old out p → Done d old out p.len
left_bare (refused c) old out p e s = record { bytes = s.0; len = s.1; back = tt }
left_bare (drafted f) old out p e s = absurd (due_none _ _ _ e s.on (subst (λ k. p.len + 27 ≤ bound k) (sym (upto_size f old out p s)) s.room))

-- a file finished
pub file_finished : (d : FileDraft) (old out out' : List ℕ) (p : Progress) (m : ℕ) → end_due p.refused (length out) p.len ≡ true → p.batches < 65536 → FitsTotals p.totals → Wrote out p.len (enc_record FileEnd (enc_closing p.batches p.totals)) out' m → Stands d old out p → Done d old out' (p.len + 27)
file_finished (refused c) old out out' p m e few small w s = absurd (some_none c (sym s.2 ∙ due_on _ _ _ e))
file_finished (drafted f) old out out' p m e few small w s =
    let h = f.header in
    let end = enc_file_end f.batches in
    let wrote : Wrote out p.len end out' m = wrote_as (sym (λ i. enc_record FileEnd (enc_closing (s.batches i) (s.totals i)))) w in
    let more : begun f ++ end ≡ encode f = append_assoc (enc_file_head h) (enc_batches h f.batches) end in
    let bytes : out' ≡ fronted (encode f) old = lengthens (begun f) end old out out' p.len m (omega (arith, bound_buffer _ _ s.room)) s.bytes s.len wrote ∙ ap (λ l. fronted l old) more in
    let size : p.len + 27 ≡ length (encode f) = ap (λ k. k + 27) s.len ∙ sym (length-append (begun f) end) ∙ ap length more in
    let formed : Formed f = record { header = s.header; batches = s.formed; few = subst (λ k. k < 65536) s.batches few; totals = subst FitsTotals s.totals small; short = omega (arith, size, bound_file _ _ s.room) } in
    let front : take (p.len + 27) out' ≡ encode f = ap (take (p.len + 27)) bytes ∙ take_at (encode f) _ (p.len + 27) (sym size) in
    record { bytes = bytes; len = size; back = (formed, ap judge front ∙ accepts f formed) }
