-- Rows and batches with one more at the end: their bytes, totals, numbers and form.
use Rattle.std.proofs.Common.{◌≡◌, ℕ, ◌*◌, ◌<◌, ◌≤◌, true, List, [], ◌∷◌, ◌++◌, length, sym, refl, ap, ◌∙◌, append_assoc, append-nil, arith}
use Rattle.terms.specs.declared.file_kind.FileKind.{FileKind}
use Rattle.wire.specs.Rows.{Even, is_of, no_totals, plus, tally}
use Rattle.wire.specs.declared.row.Row.{Row}
use Rattle.wire.specs.declared.row.Row.TheVariants.{Presentation, Return}
use Rattle.wire.specs.declared.values.Totals.{Totals}
use Rattle.memberfile.specs.Layout.{BatchValue, FitsRow, FitsTotals, FormedBatches, FormedRows, all_rows, enc_batch_end, enc_batch_head, enc_batches, enc_row, enc_rows}
use Rattle.memberfile.specs.declared.header.Header.{Header}
use Rattle.exactness.proofs.Complete.{tally-++}
use Rattle.writer.specs.Drafts.{last_from}

pub row_bytes : (r : Row) → length (enc_row r) ≡ 16
row_bytes (Presentation p) = refl
row_bytes (Return p) = refl

pub rows_more : (rs : List Row) (r : Row) → enc_rows (rs ++ (r ∷ [])) ≡ enc_rows rs ++ enc_row r
rows_more [] r = append-nil (enc_row r)
rows_more (q ∷ rs) r = ap (λ l. enc_row q ++ l) (rows_more rs r) ∙ sym (append_assoc (enc_row q) (enc_rows rs) (enc_row r))

abbrev batch : Header → BatchValue → List ℕ
batch h b = enc_batch_head h b.number ++ (enc_rows b.rows ++ enc_batch_end b.number b.rows)

apart : (a b c d : List ℕ) → a ++ (b ++ (c ++ d)) ≡ (a ++ (b ++ c)) ++ d
apart a b c d = simp append_assoc

pub batches_more : (h : Header) (bs : List BatchValue) (b : BatchValue) → enc_batches h (bs ++ (b ∷ [])) ≡ enc_batches h bs ++ batch h b
batches_more h [] b = ap (λ l. enc_batch_head h b.number ++ (enc_rows b.rows ++ l)) (append-nil (enc_batch_end b.number b.rows))
batches_more h (a ∷ bs) b =
    let head = enc_batch_head h a.number in
    let end = enc_batch_end a.number a.rows in
    ap (λ l. head ++ (enc_rows a.rows ++ (end ++ l))) (batches_more h bs b)
    ∙ ap (λ l. head ++ (enc_rows a.rows ++ l)) (sym (append_assoc end (enc_batches h bs) (batch h b)))
    ∙ apart head (enc_rows a.rows) (end ++ enc_batches h bs) (batch h b)

pub all_rows_more : (bs : List BatchValue) (b : BatchValue) → all_rows (bs ++ (b ∷ [])) ≡ all_rows bs ++ b.rows
all_rows_more [] b = append-nil b.rows
all_rows_more (a ∷ bs) b = ap (λ l. a.rows ++ l) (all_rows_more bs b) ∙ sym (append_assoc a.rows (all_rows bs) b.rows)

pub tally_more : (t : Totals) (rs : List Row) (r : Row) → tally t (rs ++ (r ∷ [])) ≡ plus (tally t rs) r
tally_more t rs r = tally-++ t rs (r ∷ [])

pub last_more : (n : ℕ) (bs : List BatchValue) (b : BatchValue) → last_from n (bs ++ (b ∷ [])) ≡ b.number
last_more n [] b = refl
last_more n (a ∷ bs) b = last_more a.number bs b

pub formed_rows_more : (k : FileKind) (rs : List Row) (r : Row) → FormedRows k rs → FitsRow r → is_of k r ≡ true → FormedRows k (rs ++ (r ∷ []))
formed_rows_more k [] r w h e = (h, e, tt)
formed_rows_more k (q ∷ rs) r w h e = (w.0, w.1, formed_rows_more k rs r w.2 h e)

pub formed_batches_more : (k : FileKind) (n : ℕ) (bs : List BatchValue) (b : BatchValue) → FormedBatches k n bs → last_from n bs < b.number → b.number < 65536 → FormedRows k b.rows → FitsTotals (tally no_totals b.rows) → FormedBatches k n (bs ++ (b ∷ []))
formed_batches_more k n [] b w a s r t = (a, s, r, t, tt)
formed_batches_more k n (d ∷ bs) b w a s r t = (w.0, w.1, w.2, w.3, formed_batches_more k d.number bs b w.4 a s r t)

-- sums over no more rows than a file has bytes for fit their fields
pub few_fit : (t : Totals) (n : ℕ) → Even t → t.count * 16 ≤ n → n ≤ 65535 → FitsTotals t
few_fit t n e c h = let p = e.0 in let q = e.1 in let r = e.2 in (omega arith, omega arith, omega arith, omega arith)
