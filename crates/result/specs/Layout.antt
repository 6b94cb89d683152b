-- The layout of a result file: a header, a record for each member, a record for each withdrawn record, and the totals.
use Rattle.std.specs.Prelude.{ℕ, ◌+◌, ◌-◌, ◌%◌, ◌^◌, ◌<◌, List, [], ◌∷◌, ◌++◌, length, ℤ, pos, negsuc}
use Rattle.terms.specs.Numbers.{currency_number, cycle_number}
use Rattle.terms.specs.declared.currency.Currency.{Currency}
use Rattle.terms.specs.declared.cycle.Cycle.{Cycle}
use Rattle.wire.specs.Bytes.{in_bytes}
use Rattle.clearing.specs.declared.entry.Entry.{Entry}
use Rattle.result.specs.Gathered.{each_of}
use Rattle.result.specs.declared.member_line.MemberLine.{MemberLine}

-- what a result file says
pub record ResultValue : Type 0 where
  pub currency : Currency
  pub cycle : Cycle
  pub date : ℕ
  -- rising by code
  pub members : List MemberLine
  -- rising by session number
  pub withdrawn : List Entry

-- a number in two's complement of 64 bits: the number modulo 2 ^ 64
abbrev pub twos : ℤ → ℕ
twos (pos n) = n % 2 ^ 64
twos (negsuc n) = 2 ^ 64 - 1 - n % 2 ^ 64

-- a position, or 0 where it is negative
abbrev pub positive : ℤ → ℕ
positive (pos n) = n
positive (negsuc n) = 0

-- the sum of the positive positions
abbrev pub positive_sum : List MemberLine → ℕ
positive_sum [] = 0
positive_sum (m ∷ ms) = positive m.position + positive_sum ms

-- a record: tag, length of the value in two bytes, value
abbrev pub enc_tagged : ℕ → List ℕ → List ℕ
enc_tagged tag value = tag ∷ (in_bytes 2 (length value) ++ value)

-- currency, cycle and date
abbrev pub enc_header : Currency → Cycle → ℕ → List ℕ
enc_header currency cycle date = enc_tagged 4 (currency_number currency ∷ cycle_number cycle ∷ in_bytes 4 date)

-- a member: code, position and cover
abbrev pub enc_member : MemberLine → List ℕ
enc_member m = enc_tagged 2 (in_bytes 2 m.code ++ (in_bytes 8 (twos m.position) ++ in_bytes 8 m.cover))

-- a withdrawn record: origin and other as sent, reference, amount, commission, and cause 12
abbrev pub enc_withdrawn : Entry → List ℕ
enc_withdrawn e = enc_tagged 3 (in_bytes 2 e.origin ++ (in_bytes 2 e.other ++ (in_bytes 4 e.reference ++ (in_bytes 4 e.amount ++ (in_bytes 2 e.commission ++ (12 ∷ []))))))

-- how many members and withdrawn records, and the sum of the positive positions
abbrev pub enc_totals : ℕ → ℕ → ℕ → List ℕ
enc_totals members withdrawn sum = enc_tagged 10 (in_bytes 2 members ++ (in_bytes 2 withdrawn ++ in_bytes 8 sum))

-- the bytes of a result file
abbrev pub encode_result : ResultValue → List ℕ
encode_result v =
    enc_header v.currency v.cycle v.date
    ++ (each_of enc_member v.members
    ++ (each_of enc_withdrawn v.withdrawn
    ++ enc_totals (length v.members) (length v.withdrawn) (positive_sum v.members)))

-- the totals fit the bytes that they are given
pub record FitsTotals (v : ResultValue) : Type 0 where
  pub members : length v.members < 2 ^ 16
  pub withdrawn : length v.withdrawn < 2 ^ 16
  pub sum : positive_sum v.members < 2 ^ 64
