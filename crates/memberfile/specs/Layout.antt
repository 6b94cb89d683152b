-- A member file as a value, its bytes, and when it is well-formed.
use Rattle.std.specs.Prelude.{◌≡◌, ℕ, ◌<◌, ◌≤◌, true, List, [], ◌∷◌, ◌++◌, length}
use Rattle.terms.specs.Numbers.{batch_kind}
use Rattle.terms.specs.declared.file_kind.FileKind.{FileKind}
use Rattle.wire.specs.Bytes.{in_bytes}
use Rattle.wire.specs.Records.{tag_byte, width}
use Rattle.wire.specs.Rows.{is_of, no_totals, tally}
use Rattle.wire.specs.declared.record.Tag.{Tag}
use Rattle.wire.specs.declared.record.Tag.TheVariants.{FileHeader, BatchHeader, Presentation as t_presentation, Return as t_return, BatchEnd, FileEnd}
use Rattle.wire.specs.declared.row.Row.{Row}
use Rattle.wire.specs.declared.row.Row.TheVariants.{Presentation, Return}
use Rattle.wire.specs.declared.values.RawHeader.{RawHeader}
use Rattle.wire.specs.declared.values.Presentation.{Presentation as PresentationV}
use Rattle.wire.specs.declared.values.Return.{Return as ReturnV}
use Rattle.wire.specs.declared.values.Totals.{Totals}
use Rattle.memberfile.specs.Headers.{ranged, raw_of}
use Rattle.memberfile.specs.declared.header.Header.{Header}

pub record BatchValue : Type 0 where
  pub number : ℕ
  pub rows : List Row

pub record FileValue : Type 0 where
  pub header : Header
  pub batches : List BatchValue

-- the rows of all batches, in their order
abbrev pub all_rows : List BatchValue → List Row
all_rows [] = []
all_rows (b ∷ bs) = b.rows ++ all_rows bs

-- a record: tag, length of the value in two bytes, value
abbrev pub enc_record : Tag → List ℕ → List ℕ
enc_record t v = tag_byte t ∷ 0 ∷ width t ∷ v

abbrev pub enc_header : RawHeader → List ℕ
enc_header r = r.kind ∷ r.currency ∷ r.cycle ∷ (in_bytes 2 r.origin ++ (in_bytes 4 r.date ++ (r.number ∷ [])))

abbrev pub enc_presentation : PresentationV → List ℕ
enc_presentation p = p.record_type ∷ (in_bytes 2 p.other ++ (in_bytes 4 p.reference ++ (in_bytes 4 p.amount ++ in_bytes 2 p.commission)))

abbrev pub enc_return : ReturnV → List ℕ
enc_return p = in_bytes 2 p.originator ++ (in_bytes 4 p.reference ++ (in_bytes 4 p.amount ++ (in_bytes 2 p.commission ++ (p.cause ∷ []))))

abbrev pub enc_closing : ℕ → Totals → List ℕ
enc_closing n t = in_bytes 2 n ++ (in_bytes 2 t.count ++ (in_bytes 8 t.amounts ++ (in_bytes 8 t.commissions ++ in_bytes 4 t.parties)))

abbrev pub enc_row : Row → List ℕ
enc_row (Presentation p) = enc_record t_presentation (enc_presentation p)
enc_row (Return p) = enc_record t_return (enc_return p)

abbrev pub enc_rows : List Row → List ℕ
enc_rows [] = []
enc_rows (r ∷ rs) = enc_row r ++ enc_rows rs

abbrev pub enc_file_head : Header → List ℕ
enc_file_head h = enc_record FileHeader (enc_header (raw_of h))

abbrev pub enc_batch_head : Header → ℕ → List ℕ
enc_batch_head h n = enc_record BatchHeader (batch_kind h.kind ∷ in_bytes 2 n)

abbrev pub enc_batch_end : ℕ → List Row → List ℕ
enc_batch_end n rs = enc_record BatchEnd (enc_closing n (tally no_totals rs))

abbrev pub enc_batches : Header → List BatchValue → List ℕ
enc_batches h [] = []
enc_batches h (b ∷ bs) = enc_batch_head h b.number ++ (enc_rows b.rows ++ (enc_batch_end b.number b.rows ++ enc_batches h bs))

abbrev pub enc_file_end : List BatchValue → List ℕ
enc_file_end bs = enc_record FileEnd (enc_closing (length bs) (tally no_totals (all_rows bs)))

-- the bytes of a member file
abbrev pub encode : FileValue → List ℕ
encode f = enc_file_head f.header ++ (enc_batches f.header f.batches ++ enc_file_end f.batches)

-- each number of a row fits its field
abbrev pub FitsRow : Row → Type 0
FitsRow (Presentation p) = (p.record_type < 256) × (p.other < 65536) × (p.reference < 4294967296) × (p.amount < 4294967296) × (p.commission < 65536)
FitsRow (Return p) = (p.originator < 65536) × (p.reference < 4294967296) × (p.amount < 4294967296) × (p.commission < 65536) × (p.cause < 256)

abbrev pub FitsTotals : Totals → Type 0
FitsTotals t = (t.count < 65536) × (t.amounts < 18446744073709551616) × (t.commissions < 18446744073709551616) × (t.parties < 4294967296)

-- origin, file number and date of a header are in range; kind, currency and cycle are by their types
abbrev pub LawfulHeader : Header → Type 0
LawfulHeader h = ranged (raw_of h) ≡ true

-- the rows fit their fields and are those of files of a kind
abbrev pub FormedRows : FileKind → List Row → Type 0
FormedRows k [] = Unit {0}
FormedRows k (r ∷ rs) = FitsRow r × (is_of k r ≡ true) × FormedRows k rs

-- the batches of a file of a kind, with numbers that rise from above n
abbrev pub FormedBatches : FileKind → ℕ → List BatchValue → Type 0
FormedBatches k n [] = Unit {0}
FormedBatches k n (b ∷ bs) = (n < b.number) × (b.number < 65536) × FormedRows k b.rows × FitsTotals (tally no_totals b.rows) × FormedBatches k b.number bs

-- A well-formed file: header in range, batch numbers that rise from at least 1, rows of the file's kind, each number within its field,
-- and at most 65,535 bytes in all.
pub record Formed (f : FileValue) : Type 0 where
  pub header : LawfulHeader f.header
  pub batches : FormedBatches f.header.kind 0 f.batches
  pub few : length f.batches < 65536
  pub totals : FitsTotals (tally no_totals (all_rows f.batches))
  pub short : length (encode f) ≤ 65535
