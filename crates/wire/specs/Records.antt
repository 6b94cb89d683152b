-- What stands at a place of a file: a record of some kind with its value, or what is wrong with the bytes there.
use Rattle.std.specs.Prelude.{◌≡◌, ℕ, ◌+◌, ◌*◌, cond, List, [], ◌∷◌, length, take, drop, Some, None, Ok, Err, Option, Result, ◌==◌, nat_lt}
use Rattle.terms.specs.Codes.{fields_fault}
use Rattle.terms.specs.declared.fault.Fault.{Fault}
use Rattle.terms.specs.declared.refusal.Refusal.{Refusal}
use Rattle.terms.specs.declared.refusal.Refusal.TheVariants.{HeadCut, UnknownTag, WrongLength, ValueCut}
use Rattle.wire.specs.declared.record.Tag.{Tag}
use Rattle.wire.specs.declared.record.Tag.TheVariants.{FileHeader as t_file_header, BatchHeader as t_batch_header, Presentation as t_presentation, Return as t_return, BatchEnd as t_batch_end, FileEnd as t_file_end}
use Rattle.wire.specs.declared.record.Record.{Record}
use Rattle.wire.specs.declared.record.Record.TheVariants.{FileHeader, BatchHeader, Presentation, Return, BatchEnd, FileEnd}

-- a record as the file says it
pub record Piece : Type 0 where
  pub tag : Tag
  pub value : List ℕ

abbrev pub piece : Tag → List ℕ → Piece
piece t v = record { tag = t; value = v }

abbrev pub tag_byte : Tag → ℕ
tag_byte t_file_header = 1
tag_byte t_batch_header = 5
tag_byte t_presentation = 6
tag_byte t_return = 7
tag_byte t_batch_end = 8
tag_byte t_file_end = 9

-- the kind with a tag byte
abbrev pub tag_of : ℕ → Option Tag
tag_of b = cond (b == 1) (Some t_file_header) (cond (b == 5) (Some t_batch_header) (cond (b == 6) (Some t_presentation) (cond (b == 7) (Some t_return) (cond (b == 8) (Some t_batch_end) (cond (b == 9) (Some t_file_end) None)))))

-- how many bytes the value of a record has
abbrev pub width : Tag → ℕ
width t_file_header = 10
width t_batch_header = 3
width t_presentation = 13
width t_return = 13
width t_batch_end = 24
width t_file_end = 24

-- behind a head: the tag, the length that is written, and the bytes that follow
abbrev pub behind_head : Option Tag → ℕ → List ℕ → Result Piece Refusal
behind_head None n vs = Err UnknownTag
behind_head (Some t) n vs = cond (n == width t) (cond (nat_lt (length vs) n) (Err ValueCut) (Ok (piece t (take n vs)))) (Err WrongLength)

-- the record that the bytes begin with
abbrev pub first_record : List ℕ → Result Piece Refusal
first_record [] = Err HeadCut
first_record (t ∷ []) = Err HeadCut
first_record (t ∷ h ∷ []) = Err HeadCut
first_record (t ∷ h ∷ l ∷ vs) = behind_head (tag_of t) (h * 256 + l) vs

abbrev pub at_place : ℕ → Result Piece Refusal → Result Piece Fault
at_place n (Ok p) = Ok p
at_place n (Err c) = Err (fields_fault c n)

-- the record at place n
abbrev pub record_at : List ℕ → ℕ → Result Piece Fault
record_at s n = at_place n (first_record (drop n s))

-- what a record of the code says
abbrev pub said : Record → Piece
said (FileHeader v) = piece t_file_header v.now
said (BatchHeader v) = piece t_batch_header v.now
said (Presentation v) = piece t_presentation v.now
said (Return v) = piece t_return v.now
said (BatchEnd v) = piece t_batch_end v.now
said (FileEnd v) = piece t_file_end v.now

abbrev pub told : {E : Type 0} → Result Record E → Result Piece E
told (Ok r) = Ok (said r)
told (Err f) = Err f

-- how far a reader goes on: over the head and the value
abbrev pub advance : {E : Type 0} → Result Record E → ℕ
advance (Ok r) = 3 + length (said r).value
advance (Err f) = 0

-- a record's value is as long as its kind says
abbrev pub Sized : Piece → Type 0
Sized p = length p.value ≡ width p.tag
