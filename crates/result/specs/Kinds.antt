-- The kinds of records of a result file: the tag of each, and how many bytes its value has.
use Rattle.std.specs.Prelude.{ℕ, List, ◌∷◌}
use Rattle.wire.specs.Bytes.{in_bytes}
use Rattle.result.specs.declared.records.Kind.{Kind}
use Rattle.result.specs.declared.records.Kind.TheVariants.{Header, Member, Withdrawn, Totals}

abbrev pub tag_of : Kind → ℕ
tag_of Header = 4
tag_of Member = 2
tag_of Withdrawn = 3
tag_of Totals = 10

abbrev pub width_of : Kind → ℕ
width_of Header = 6
width_of Member = 18
width_of Withdrawn = 15
width_of Totals = 12

-- what stands in front of the value: the tag, and the length of the value in two bytes
abbrev pub head_of : Kind → List ℕ
head_of k = tag_of k ∷ in_bytes 2 (width_of k)
