-- Why a file is refused, in the words of files: what stands before the place, and the first rule that is broken there.
use Rattle.std.specs.Prelude.{◌≡◌, ℕ, ◌+◌, ◌*◌, ◌<◌, ◌≤◌, ◌⊎◌, List, [], ◌∷◌, ◌++◌, length, take, drop, Some, Ok, Err, Option, Result, slice_index}
use Rattle.terms.specs.Codes.{fields_fault, file_fault}
use Rattle.terms.specs.Numbers.{batch_kind}
use Rattle.terms.specs.declared.fault.Fault.{Fault}
use Rattle.terms.specs.declared.file_kind.FileKind.TheVariants.{Presentations, Returns}
use Rattle.terms.specs.declared.refusal.Refusal.{Refusal}
use Rattle.terms.specs.declared.refusal.Refusal.TheVariants.{HeadCut, UnknownTag, WrongLength, ValueCut, OutOfOrder, HeaderValue, WrongKind, BatchNumber, TotalDiffers}
use Rattle.wire.specs.Bytes.{Octets}
use Rattle.wire.specs.Records.{tag_of, width}
use Rattle.wire.specs.Rows.{no_totals, tally}
use Rattle.wire.specs.Values.{raw_header_in, batch_head_in, closing_in}
use Rattle.wire.specs.declared.record.Tag.{Tag}
use Rattle.wire.specs.declared.record.Tag.TheVariants.{FileHeader, BatchHeader, Presentation as t_presentation, Return as t_return, BatchEnd, FileEnd}
use Rattle.wire.specs.declared.row.Row.{Row}
use Rattle.memberfile.specs.Headers.{InRange}
use Rattle.memberfile.specs.Judge.{judge, too_long}
use Rattle.memberfile.specs.Layout.{BatchValue, FileValue, FitsTotals, FormedBatches, FormedRows, LawfulHeader, all_rows, enc_batch_head, enc_batches, enc_file_head, enc_rows, encode}
use Rattle.memberfile.specs.declared.check.Summary.{Summary}
use Rattle.memberfile.specs.declared.header.Header.{Header}

-- the rules of a record's own bytes, and those of a record among the others of its file
pub data FieldsRule : Type 0 where
  head_whole : FieldsRule
  tag_known : FieldsRule
  length_right : FieldsRule
  value_whole : FieldsRule

pub data FileRule : Type 0 where
  in_order : FileRule
  header_in_range : FileRule
  kind_right : FileRule
  number_right : FileRule
  totals_right : FileRule

pub data Rule : Type 0 where
  fields : FieldsRule → Rule
  file : FileRule → Rule

-- what a record that breaks the rule is refused with
abbrev pub fields_cause : FieldsRule → Refusal
fields_cause head_whole = HeadCut
fields_cause tag_known = UnknownTag
fields_cause length_right = WrongLength
fields_cause value_whole = ValueCut

abbrev pub file_cause : FileRule → Refusal
file_cause in_order = OutOfOrder
file_cause header_in_range = HeaderValue
file_cause kind_right = WrongKind
file_cause number_right = BatchNumber
file_cause totals_right = TotalDiffers

-- the fault of a record at place n that breaks the rule
abbrev pub fault_of : Rule → ℕ → Fault
fault_of (fields r) n = fields_fault (fields_cause r) n
fault_of (file r) n = file_fault (file_cause r) n

-- the order in which the rules are tried
abbrev pub file_rules : List FileRule
file_rules = in_order ∷ header_in_range ∷ kind_right ∷ number_right ∷ totals_right ∷ []

abbrev pub as_rules : List FileRule → List Rule
as_rules [] = []
as_rules (r ∷ rs) = file r ∷ as_rules rs

abbrev pub rules : List Rule
rules = fields head_whole ∷ fields tag_known ∷ fields length_right ∷ fields value_whole ∷ as_rules file_rules

-- what stands before a place: nothing, a header with batches, these with an open batch's number and rows, or a whole file
pub data Front : Type 0 where
  bare : Front
  batches : Header → List BatchValue → Front
  opened : Header → List BatchValue → ℕ → List Row → Front
  whole : FileValue → Front

abbrev pub opening : Header → List BatchValue → List ℕ
opening h c = enc_file_head h ++ enc_batches h c

-- the bytes of what stands before
abbrev pub bytes_of : Front → List ℕ
bytes_of bare = []
bytes_of (batches h c) = opening h c
bytes_of (opened h c n rs) = opening h c ++ (enc_batch_head h n ++ enc_rows rs)
bytes_of (whole f) = encode f

-- the number of the last batch, or n where there is none
abbrev pub last_of : ℕ → List BatchValue → ℕ
last_of n [] = n
last_of n (b ∷ bs) = last_of b.number bs

abbrev pub Begun : Header → List BatchValue → Type 0
Begun h c = LawfulHeader h × FormedBatches h.kind 0 c

-- what stands before is in order
abbrev pub Stands : Front → Type 0
Stands bare = Unit {0}
Stands (batches h c) = Begun h c
Stands (opened h c n rs) = Begun h c × (last_of 0 c < n) × (n < 65536) × FormedRows h.kind rs
Stands (whole f) = Begun f.header f.batches × (length f.batches < 65536) × FitsTotals (tally no_totals (all_rows f.batches))

-- the records that may follow
abbrev pub Follows : Front → Tag → Type 0
Follows bare t = t ≡ FileHeader
Follows (batches h c) t = (t ≡ BatchHeader) ⊎ (t ≡ FileEnd)
Follows (opened h c n rs) t = (t ≡ t_presentation) ⊎ ((t ≡ t_return) ⊎ (t ≡ BatchEnd))
Follows (whole f) t = ⊥

-- a file header's values are in range
abbrev pub HeaderRight : Tag → List ℕ → Type 0
HeaderRight FileHeader v = InRange (raw_header_in v)
HeaderRight BatchHeader v = Unit {0}
HeaderRight t_presentation v = Unit {0}
HeaderRight t_return v = Unit {0}
HeaderRight BatchEnd v = Unit {0}
HeaderRight FileEnd v = Unit {0}

-- a batch header or a row is of the file's kind
abbrev pub KindRight : Header → Tag → List ℕ → Type 0
KindRight h FileHeader v = Unit {0}
KindRight h BatchHeader v = (batch_head_in v).kind ≡ batch_kind h.kind
KindRight h t_presentation v = h.kind ≡ Presentations
KindRight h t_return v = h.kind ≡ Returns
KindRight h BatchEnd v = Unit {0}
KindRight h FileEnd v = Unit {0}

-- a batch header's number is above that of batches c, a batch end's is that of its batch
abbrev pub NumberRight : List BatchValue → ℕ → Tag → List ℕ → Type 0
NumberRight c n FileHeader v = Unit {0}
NumberRight c n BatchHeader v = last_of 0 c < (batch_head_in v).number
NumberRight c n t_presentation v = Unit {0}
NumberRight c n t_return v = Unit {0}
NumberRight c n BatchEnd v = (closing_in v).number ≡ n
NumberRight c n FileEnd v = Unit {0}

-- an end's totals are those of the rows, and a file end's number is that of the batches
abbrev pub TotalsRight : List BatchValue → List Row → Tag → List ℕ → Type 0
TotalsRight c rs FileHeader v = Unit {0}
TotalsRight c rs BatchHeader v = Unit {0}
TotalsRight c rs t_presentation v = Unit {0}
TotalsRight c rs t_return v = Unit {0}
TotalsRight c rs BatchEnd v = (closing_in v).totals ≡ tally no_totals rs
TotalsRight c rs FileEnd v = ((closing_in v).number ≡ length c) × ((closing_in v).totals ≡ tally no_totals (all_rows c))

-- a record with that tag and value, behind the front, keeps the rule
abbrev pub Right : FileRule → Front → Tag → List ℕ → Type 0
Right in_order p t v = Follows p t
Right header_in_range p t v = HeaderRight t v
Right kind_right bare t v = Unit {0}
Right kind_right (batches h c) t v = KindRight h t v
Right kind_right (opened h c n rs) t v = KindRight h t v
Right kind_right (whole f) t v = Unit {0}
Right number_right bare t v = Unit {0}
Right number_right (batches h c) t v = NumberRight c 0 t v
Right number_right (opened h c n rs) t v = NumberRight c n t v
Right number_right (whole f) t v = Unit {0}
Right totals_right bare t v = Unit {0}
Right totals_right (batches h c) t v = TotalsRight c [] t v
Right totals_right (opened h c n rs) t v = TotalsRight c rs t v
Right totals_right (whole f) t v = Unit {0}

-- the tag that the bytes begin with
abbrev pub tag_at : List ℕ → Option Tag
tag_at rest = tag_of (slice_index rest 0)

abbrev pub value_at : Tag → List ℕ → List ℕ
value_at t rest = take (width t) (drop 3 rest)

-- the bytes that follow on the front keep a rule
abbrev pub Keeps : Rule → Front → List ℕ → Type 0
Keeps (fields head_whole) p rest = 3 ≤ length rest
Keeps (fields tag_known) p rest = (t : Tag) × (tag_at rest ≡ Some t)
Keeps (fields length_right) p rest = (t : Tag) → tag_at rest ≡ Some t → slice_index rest 1 * 256 + slice_index rest 2 ≡ width t
Keeps (fields value_whole) p rest = (t : Tag) → tag_at rest ≡ Some t → 3 + width t ≤ length rest
Keeps (file r) p rest = (t : Tag) → tag_at rest ≡ Some t → Right r p t (value_at t rest)

-- of rules in their order, the first that is broken is r
abbrev pub FirstBroken : List Rule → Rule → Front → List ℕ → Type 0
FirstBroken [] r p rest = ⊥
FirstBroken (d ∷ ds) r p rest = ((d ≡ r) × (Keeps d p rest → ⊥)) ⊎ (Keeps d p rest × FirstBroken ds r p rest)

-- the rule that the bytes behind the front break; behind a whole file no byte may stand, whatever it is
abbrev pub Breaks : Front → Rule → List ℕ → Type 0
Breaks bare r rest = FirstBroken rules r bare rest
Breaks (batches h c) r rest = FirstBroken rules r (batches h c) rest
Breaks (opened h c n rs) r rest = FirstBroken rules r (opened h c n rs) rest
Breaks (whole f) r rest = (r ≡ file in_order) × (0 < length rest)

-- the fault is the first one: what stands before its place is in order, and its rule is the first that is broken there
pub record FaultIn (bs : List ℕ) (x : Fault) : Type 0 where
  pub front : Front
  pub stands : Stands front
  pub rest : List ℕ
  pub wrote : bs ≡ bytes_of front ++ rest
  pub rule : Rule
  pub breaks : Breaks front rule rest
  pub fault : x ≡ fault_of rule (length (bytes_of front))

-- when a file is refused with a fault
abbrev pub Refused : List ℕ → Fault → Type 0
Refused bs x = ((65535 < length bs) × (x ≡ too_long)) ⊎ ((length bs ≤ 65535) × FaultIn bs x)

-- the verdict is a fault exactly when the file is refused with it
abbrev pub RefusedExactly : Type 0
RefusedExactly = (bs : List ℕ) (x : Fault) → Octets bs → (judge bs ≡ Err x → Refused bs x) × (Refused bs x → judge bs ≡ Err x)

-- an answer refuses with the one fault that the file has, and accepts only where it has none
abbrev pub RefusedBy : List ℕ → Result Summary Fault → Type 0
RefusedBy bs (Ok m) = (x : Fault) → Refused bs x → ⊥
RefusedBy bs (Err x) = Refused bs x × ((y : Fault) → Refused bs y → y ≡ x)
