-- A whole file that is not refused is written as it was given: no batch and no row is turned away.
use Rattle.std.proofs.Common.{◌≡◌, ℕ, ◌+◌, ◌*◌, ◌<◌, ◌≤◌, true, false, cond, ◌&&◌, ltb, leb, List, [], ◌∷◌, ◌++◌, map, length, get_or, take, Some, None, Option, sym, refl, ap, ◌∙◌, subst, append_assoc, append-nil, arith, length-append, le-ltb, leb-true}
use Rattle.std.proofs.lemmas.List.{take_more}
use Rattle.std.proofs.lemmas.Bool.{and_parts}
use Rattle.terms.specs.declared.refusal.Refusal.{Refusal}
use Rattle.terms.specs.declared.refusal.Refusal.TheVariants.{WriterSpace, WriterKind}
use Rattle.wire.specs.Rows.{is_of}
use Rattle.wire.specs.declared.row.Row.{Row}
use Rattle.memberfile.specs.Headers.{ranged, raw_of}
use Rattle.memberfile.specs.Layout.{BatchValue, FileValue, enc_batch_end, enc_batch_head, enc_batches, enc_file_end, enc_file_head, enc_row, enc_rows, encode}
use Rattle.memberfile.specs.declared.header.Header.{Header}
use Rattle.writer.proofs.Growth.{else_none}
use Rattle.writer.proofs.Longer.{row_bytes, last_more}
use Rattle.writer.specs.Drafts.{FileDraft, drafted, BatchDraft, drafting, batch_check_at, begun, begun_with, blank_batch, blank_file, closed, extended, extended_by, file_check, last_from, opened, opened_by, row_check_at, started_by, with_batch, with_row}
use Rattle.writer.specs.Whole.{all_of, all_put, all_written, batch_bytes, batch_of, batch_put, each_of, rises_from, whole_check}
use Rattle.writer.specs.declared.batch_rows.BatchRows.{BatchRows}

-- one more at the end
put_last : (room : ℕ) (d : BatchDraft) (rs : List Row) (r : Row) → all_put room d (rs ++ (r ∷ [])) ≡ extended room (all_put room d rs) r
put_last room d [] r = refl
put_last room d (q ∷ rs) r = put_last room (extended room d q) rs r

pub put_more : (room : ℕ) (d : BatchDraft) (rs : List Row) (i : ℕ) (z : Row) → i < length rs → all_put room d (take (i + 1) rs) ≡ extended room (all_put room d (take i rs)) (get_or rs i z)
put_more room d rs i z h = ap (all_put room d) (take_more rs i z h) ∙ put_last room d (take i rs) (get_or rs i z)

write_last : (room : ℕ) (d : FileDraft) (bs : List BatchRows) (b : BatchRows) → all_written room d (map batch_of (bs ++ (b ∷ []))) ≡ batch_put room (all_written room d (map batch_of bs)) (batch_of b)
write_last room d [] b = refl
write_last room d (a ∷ bs) b = write_last room (batch_put room d (batch_of a)) bs b

pub write_more : (room : ℕ) (d : FileDraft) (bs : List BatchRows) (i : ℕ) (z : BatchRows) → i < length bs → all_written room d (map batch_of (take (i + 1) bs)) ≡ batch_put room (all_written room d (map batch_of (take i bs))) (batch_of (get_or bs i z))
write_more room d bs i z h = ap (λ l. all_written room d (map batch_of l)) (take_more bs i z h) ∙ write_last room d (take i bs) (get_or bs i z)

-- lengths
rows_length : (rs : List Row) → length (enc_rows rs) ≡ length rs * 16
rows_length [] = refl
rows_length (r ∷ rs) = length-append (enc_row r) (enc_rows rs) ∙ omega (arith, row_bytes r, rows_length rs)

batches_length : (h : Header) (bs : List BatchValue) → length (enc_batches h bs) ≡ batch_bytes bs
batches_length h [] = refl
batches_length h (b ∷ bs) =
    let rest = enc_batch_end b.number b.rows ++ enc_batches h bs in
    let l = length-append (enc_rows b.rows) rest in
    omega (arith, length-append (enc_batch_head h b.number) (enc_rows b.rows ++ rest), l, length-append (enc_batch_end b.number b.rows) (enc_batches h bs), rows_length b.rows, batches_length h bs)

begun_length : (f : FileValue) → length (begun f) ≡ 13 + batch_bytes f.batches
begun_length f = omega (arith, length-append (enc_file_head f.header) (enc_batches f.header f.batches), batches_length f.header f.batches)

begun_with_length : (f : FileValue) (b : BatchValue) → length (begun_with f b) ≡ 19 + batch_bytes f.batches + length b.rows * 16
begun_with_length f b = omega (arith, length-append (begun f) (enc_batch_head f.header b.number ++ enc_rows b.rows), begun_length f, length-append (enc_batch_head f.header b.number) (enc_rows b.rows), rows_length b.rows)

pub encode_length : (f : FileValue) → length (encode f) ≡ 40 + batch_bytes f.batches
encode_length f = omega (arith, length-append (enc_file_head f.header) (enc_batches f.header f.batches ++ enc_file_end f.batches), length-append (enc_batches f.header f.batches) (enc_file_end f.batches), batches_length f.header f.batches)

bytes_more : (bs : List BatchValue) (b : BatchValue) → batch_bytes (bs ++ (b ∷ [])) ≡ batch_bytes bs + (33 + length b.rows * 16)
bytes_more [] b = omega arith
bytes_more (a ∷ bs) b = omega (arith, bytes_more bs b)

-- all rows of a batch go in where there is space for them
rows_in_lem : (room : ℕ) (f : FileValue) (b : BatchValue) (rs : List Row) → 73 + batch_bytes f.batches + length b.rows * 16 + length rs * 16 ≤ room → all_of f.header.kind rs ≡ true → all_put room (drafting f b) rs ≡ drafting f (record { number = b.number; rows = b.rows ++ rs })
rows_in_lem room f b [] h of = ap (λ l. drafting f (record { number = b.number; rows = l })) (sym (append-nil b.rows))
rows_in_lem room f b (r ∷ rs) h of =
    let k = f.header.kind in
    let space : ltb room (length (begun_with f b) + 70) ≡ false = le-ltb _ _ (omega (arith, begun_with_length f b)) in
    let check : row_check_at room (length (begun_with f b)) k r ≡ None = rw (space, (and_parts (is_of k r) (all_of k rs) of).0) in
    let size = length-append b.rows (r ∷ []) in
    ap (λ o. all_put room (extended_by o (drafting f b) r) rs) check
    ∙ rows_in_lem room f (with_row b r) rs (omega arith) (and_parts (is_of k r) _ of).1
    ∙ ap (λ l. drafting f (record { number = b.number; rows = l })) (append_assoc b.rows (r ∷ []) rs)

-- all batches of a file go in where there is space for them and their numbers rise
batches_in : (room : ℕ) (f : FileValue) (bs : List BatchValue) → 40 + batch_bytes f.batches + batch_bytes bs ≤ room → rises_from (last_from 0 f.batches) bs ≡ true → each_of f.header.kind bs ≡ true → all_written room (drafted f) bs ≡ drafted (record { header = f.header; batches = f.batches ++ bs })
batches_in room f [] h rise of = ap (λ l. drafted (record { header = f.header; batches = l })) (sym (append-nil f.batches))
batches_in room f (b ∷ bs) h rise of =
    let k = f.header.kind in
    let n = b.number in
    let last = last_from 0 f.batches in
    let space : ltb room (length (begun f) + 60) ≡ false = le-ltb _ _ (omega (arith, begun_length f)) in
    let check : batch_check_at room (length (begun f)) last n ≡ None = rw ((and_parts (ltb last n) _ rise).0, space) in
    let filled : all_put room (drafting f (blank_batch n)) b.rows ≡ drafting f b = rows_in_lem room f (blank_batch n) b.rows (omega arith) (and_parts (all_of k b.rows) (each_of k bs) of).0 in
    let one : batch_put room (drafted f) b ≡ drafted (with_batch f b) = ap (λ o. closed (all_put room (started_by o (drafted f) n) b.rows)) check ∙ ap closed filled in
    let rises : rises_from (last_from 0 (f.batches ++ (b ∷ []))) bs ≡ true = subst (λ m. rises_from m bs ≡ true) (sym (last_more 0 f.batches b)) (and_parts (ltb last n) _ rise).1 in
    ap (λ d. all_written room d bs) one
    ∙ batches_in room (with_batch f b) bs (omega (arith, bytes_more f.batches b)) rises (and_parts (all_of k b.rows) _ of).1
    ∙ ap (λ l. drafted (record { header = f.header; batches = l })) (append_assoc f.batches (b ∷ []) bs)

-- a file that is not refused
pub whole_written : (room : ℕ) (f : FileValue) → whole_check room f ≡ None → all_written room (opened room f.header) f.batches ≡ drafted f
whole_written room f e =
    let h = f.header in
    let kinds : Option Refusal = cond (each_of h.kind f.batches) None (Some WriterKind) in
    let a : (ranged (raw_of h) && rises_from 0 f.batches ≡ true) × (cond (leb (length (encode f)) room) kinds (Some WriterSpace) ≡ None) = else_none _ _ _ e in
    let b : (leb (length (encode f)) room ≡ true) × (kinds ≡ None) = else_none _ _ _ a.1 in
    let of : each_of h.kind f.batches ≡ true = (else_none _ _ _ b.1).0 in
    let fit : 40 + batch_bytes f.batches ≤ room = omega (arith, leb-true (length (encode f)) room b.0, encode_length f) in
    let space : ltb room 40 ≡ false = le-ltb _ _ (omega arith) in
    let check : file_check room h ≡ None = rw ((and_parts (ranged (raw_of h)) _ a.0).0, space) in
    ap (λ o. all_written room (opened_by o h) f.batches) check ∙ batches_in room (blank_file h) f.batches (omega arith) (and_parts (ranged (raw_of h)) _ a.0).1 of

-- the check of the whole, by its parts
pub no_space : (room : ℕ) (f : FileValue) → true ≡ ranged (raw_of f.header) → true ≡ rises_from 0 f.batches → false ≡ leb (40 + batch_bytes f.batches) room → Some WriterSpace ≡ whole_check room f
no_space room f a b c = rw (← a, ← b, encode_length f, ← c)

pub wrong_kind : (room : ℕ) (f : FileValue) → true ≡ ranged (raw_of f.header) → true ≡ rises_from 0 f.batches → true ≡ leb (40 + batch_bytes f.batches) room → false ≡ each_of f.header.kind f.batches → Some WriterKind ≡ whole_check room f
wrong_kind room f a b c d = rw (← a, ← b, encode_length f, ← c, ← d)

pub not_refused : (room : ℕ) (f : FileValue) → true ≡ ranged (raw_of f.header) → true ≡ rises_from 0 f.batches → true ≡ leb (40 + batch_bytes f.batches) room → true ≡ each_of f.header.kind f.batches → None ≡ whole_check room f
not_refused room f a b c d = rw (← a, ← b, encode_length f, ← c, ← d)
