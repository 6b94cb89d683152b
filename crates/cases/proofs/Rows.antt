-- Each row of the table is settled, by the withdrawals that its clearing takes.
use Rattle.std.proofs.Common.{◌≡◌, ℕ, Bool, true, ◌&&◌, List, [], ◌∷◌, map, length, refl}
use Rattle.std.proofs.lemmas.Bool.{and_parts}
use Rattle.std.specs.List.{AllByRecursion}
use Rattle.rules.specs.Rankings.{any_ranking}
use Rattle.clearing.specs.Choices.{up_to, total}
use Rattle.clearing.specs.Positions.{position}
use Rattle.cases.specs.Settled.{Row, Settled, cover_in, numbered, row_of, table}
use Rattle.cases.specs.declared.table.Case.{Case}
use Rattle.cases.specs.declared.table.Case.TheVariants as case
use Rattle.cases.proofs.Checked.{greatest?, is_greatest, at_most, listed_within}

abbrev settled? : Row → List ℕ → Bool
settled? r rs = at_most r.kept (length r.entries) && greatest? (any_ranking r.rule) (cover_in r) r.entries (numbered r.kept) rs

by : (r : Row) (rs : List ℕ) → settled? r rs ≡ true → map (position r.entries (numbered r.kept)) (0 ∷ 1 ∷ 2 ∷ []) ≡ r.positions → Settled r
by r rs h e =
    let p = and_parts (at_most r.kept (length r.entries)) _ h in
    record {
      greatest = is_greatest (any_ranking r.rule) (cover_in r) r.entries (numbered r.kept) rs (listed_within r.kept (length r.entries) p.0) p.1;
      reached = e;
    }

-- by place, from 0
pub each_row : (c : Case) → Settled (row_of c)
unfolding up_to total
each_row case.A = by (row_of case.A) (1 ∷ 2 ∷ 3 ∷ []) refl refl
each_row case.B = by (row_of case.B) (1 ∷ []) refl refl
each_row case.C = by (row_of case.C) (0 ∷ 2 ∷ []) refl refl
each_row case.D = by (row_of case.D) [] refl refl
each_row case.E = by (row_of case.E) [] refl refl
each_row case.F = by (row_of case.F) (0 ∷ []) refl refl
each_row case.G = by (row_of case.G) (1 ∷ 0 ∷ []) refl refl
each_row case.H = by (row_of case.H) (2 ∷ []) refl refl
each_row case.I = by (row_of case.I) [] refl refl

pub all_rows_lem : AllByRecursion Settled table
all_rows_lem = (each_row case.A, (each_row case.B, (each_row case.C, (each_row case.D, (each_row case.E, (each_row case.F, (each_row case.G, (each_row case.H, (each_row case.I, tt)))))))))
