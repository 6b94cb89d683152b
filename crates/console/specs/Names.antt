-- What goes by a name, in a table of names and values.
use Rattle.std.specs.Prelude.{ℕ, List, Option, nat_eq}
use Rattle.std.specs.Cmp.Lexicographic.{pointwise}
use Rattle.std.specs.List.{find}
use Rattle.std.specs.Option.{option_map}
use denote.Ref.{Bor}

-- the value beside the first name that is the word
abbrev pub value_named : {T : Type 0} → List (Bor (List ℕ) × T) → List ℕ → Option T
value_named names word = option_map (λ entry. entry.1) (find (λ entry. pointwise nat_eq entry.0.now word) names)
