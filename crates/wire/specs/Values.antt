-- The fields of the values, by place and width.
use Rattle.std.specs.Prelude.{ℕ, List, take, drop, slice_index}
use Rattle.wire.specs.Bytes.{number_in}
use Rattle.wire.specs.declared.values.RawHeader.{RawHeader}
use Rattle.wire.specs.declared.values.BatchHead.{BatchHead}
use Rattle.wire.specs.declared.values.Presentation.{Presentation}
use Rattle.wire.specs.declared.values.Return.{Return}
use Rattle.wire.specs.declared.values.Totals.{Totals}
use Rattle.wire.specs.declared.values.Closing.{Closing}

-- the number in w bytes from place i
abbrev pub field : List ℕ → ℕ → ℕ → ℕ
field v i w = number_in (take w (drop i v))

abbrev pub raw_header_in : List ℕ → RawHeader
raw_header_in v = record { kind = slice_index v 0; currency = slice_index v 1; cycle = slice_index v 2; origin = field v 3 2; date = field v 5 4; number = slice_index v 9 }

abbrev pub batch_head_in : List ℕ → BatchHead
batch_head_in v = record { kind = slice_index v 0; number = field v 1 2 }

abbrev pub presentation_in : List ℕ → Presentation
presentation_in v = record { record_type = slice_index v 0; other = field v 1 2; reference = field v 3 4; amount = field v 7 4; commission = field v 11 2 }

abbrev pub return_in : List ℕ → Return
return_in v = record { originator = field v 0 2; reference = field v 2 4; amount = field v 6 4; commission = field v 10 2; cause = slice_index v 12 }

abbrev pub totals_in : List ℕ → Totals
totals_in v = record { count = field v 2 2; amounts = field v 4 8; commissions = field v 12 8; parties = field v 20 4 }

abbrev pub closing_in : List ℕ → Closing
closing_in v = record { number = field v 0 2; totals = totals_in v }
