-- A clearing of a case's entries settles it as the table says.
use Rattle.std.proofs.Common.{◌≡◌, ℕ, zero, suc, ltb, List, [], ◌∷◌, map, length, ℤ, pos, ◌-ℤ◌, sym, refl, ap, ◌∙◌, subst₂, arith}
use Rattle.std.proofs.lemmas.List.{get_or_past}
use Rattle.std.proofs.lemmas.Bool.{le-ltb, cond-false}
use Rattle.rules.specs.Rankings.{any_ranking}
use Rattle.rules.specs.declared.rankings.AnyRanking.{AnyRanking}
use Rattle.clearing.specs.Choices.{Choice, Greatest, is_on, paid, payer_of, received, receiver_of}
use Rattle.clearing.specs.Positions.{position}
use Rattle.clearing.specs.Table.{Cleared, cover_on_roll, entries, front, kept}
use Rattle.clearing.specs.declared.entry.Entry.{Entry}
use Rattle.clearing.specs.declared.place.Place.{Place}
use Rattle.clearing.proofs.Grown.{greatest_cover, one}
use Rattle.clearing.proofs.Sums.{total_same}
use Rattle.cases.specs.Settled.{Row, cover_in, numbered, row_of, stated_in}
use Rattle.cases.specs.declared.table.Case.{Case}
use Rattle.cases.specs.declared.table.Case.TheVariants as case
use Rattle.cases.proofs.Rows.{each_row}

abbrev pub roll : List ℕ
roll = 2 ∷ 7 ∷ 9 ∷ []

three : (k : Case) → length (row_of k).covers ≡ 3
three case.A = refl
three case.B = refl
three case.C = refl
three case.D = refl
three case.E = refl
three case.F = refl
three case.G = refl
three case.H = refl
three case.I = refl

-- what a row states by member code is what it states by place on the roll
on_roll : (r : Row) → length r.covers ≡ 3 → (m : ℕ) → cover_on_roll (stated_in r) roll m ≡ cover_in r m
on_roll r long zero = refl
on_roll r long (suc zero) = refl
on_roll r long (suc (suc zero)) = refl
on_roll r long (suc (suc (suc m))) =
    cond-false (ltb (suc (suc (suc m))) 3) _ 0 (le-ltb (suc (suc (suc m))) 3 (omega arith)) ∙ sym (get_or_past r.covers (suc (suc (suc m))) 0 (omega arith))

same_position : (es : List Entry) (C D : Choice) → ((i : ℕ) → C i ≡ D i) → (m : ℕ) → position es C m ≡ position es D m
same_position es C D same m =
    ap (λ (x : ℕ). pos x -ℤ pos (paid es C m)) (total_same (is_on receiver_of m) es C D same)
    ∙ ap (λ (x : ℕ). pos (received es D m) -ℤ pos x) (total_same (is_on payer_of m) es C D same)

module _ (k : Case) (rule : AnyRanking) (held : ℕ) (ps qs : List Place) (n : ℕ) (by : rule ≡ (row_of k).rule) (all : held ≡ length (row_of k).entries)
    (filed : entries (front (length (row_of k).entries) ps) ≡ (row_of k).entries)
    (cleared : Cleared (any_ranking rule) (cover_on_roll (stated_in (row_of k)) roll) (front held ps) (front held qs) n) where
  before : entries (front held ps) ≡ (row_of k).entries
  before = ap (λ (x : ℕ). entries (front x ps)) all ∙ filed

  pub entries_are : entries (front held qs) ≡ (row_of k).entries
  entries_are = cleared.same ∙ before

  greatest : Greatest (any_ranking (row_of k).rule) (cover_in (row_of k)) (row_of k).entries (kept (front held qs))
  greatest =
      greatest_cover (on_roll (row_of k) (three k))
      (subst₂ (λ (x : AnyRanking) (es : List Entry). Greatest (any_ranking x) (cover_on_roll (stated_in (row_of k)) roll) es (kept (front held qs))) by before cleared.greatest)

  pub kept_are : (i : ℕ) → kept (front held qs) i ≡ numbered (row_of k).kept i
  kept_are = one (any_ranking (row_of k).rule) (cover_in (row_of k)) (row_of k).entries (kept (front held qs)) (numbered (row_of k).kept) greatest (each_row k).greatest

  reached : map (position (entries (front held qs)) (kept (front held qs))) (0 ∷ 1 ∷ 2 ∷ []) ≡ (row_of k).positions
  reached =
      let C = kept (front held qs) in
      let D = numbered (row_of k).kept in
      let es = (row_of k).entries in
      let p = same_position es C D kept_are in
      ap (λ (x : List Entry). map (position x C) (0 ∷ 1 ∷ 2 ∷ [])) entries_are
      ∙ ap (λ (z : ℤ). z ∷ position es C 1 ∷ position es C 2 ∷ []) (p 0)
      ∙ ap (λ (z : ℤ). position es D 0 ∷ z ∷ position es C 2 ∷ []) (p 1)
      ∙ ap (λ (z : ℤ). position es D 0 ∷ position es D 1 ∷ z ∷ []) (p 2)
      ∙ (each_row k).reached

  pub positions_are : (zs : List ℤ) → zs ≡ map (position (entries (front held qs)) (kept (front held qs))) (0 ∷ 1 ∷ 2 ∷ []) → zs ≡ (row_of k).positions
  positions_are zs e = e ∙ reached
