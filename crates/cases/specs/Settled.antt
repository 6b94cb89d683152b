-- The table of cases settled by hand, and what it is for a row of it to be settled as the rules say.
use Rattle.std.specs.Prelude.{◌≡◌, ℕ, ◌+◌, Bool, false, cond, ◌||◌, List, [], ◌∷◌, map, ℤ, pos, neg_ℤ, ◌==◌, slice_index}
use Rattle.rules.specs.Rankings.{any_ranking}
use Rattle.rules.specs.declared.rankings.AnyRanking.{AnyRanking}
use Rattle.rules.specs.declared.rankings.AnyRanking.TheVariants.{Sending, Wages}
use Rattle.clearing.specs.Choices.{Choice, Greatest}
use Rattle.clearing.specs.Positions.{position}
use Rattle.clearing.specs.declared.entry.Entry.{Entry}
use Rattle.cases.specs.Entries.{debit, sent_back, transfer, wages}
use Rattle.cases.specs.declared.table.Case.{Case}
use Rattle.cases.specs.declared.table.Case.TheVariants as case
use Rattle.cases.specs.declared.table.Party.TheVariants.{Two, Seven, Nine}

-- the letter of a case, as its character code
abbrev pub letter_of : Case → ℕ
letter_of case.A = 65
letter_of case.B = 66
letter_of case.C = 67
letter_of case.D = 68
letter_of case.E = 69
letter_of case.F = 70
letter_of case.G = 71
letter_of case.H = 72
letter_of case.I = 73

-- A row of the table: what is cleared, under which rule and covers, the session numbers that are kept, and the positions of 2, 7 and 9.
pub record Row : Type 0 where
  pub entries : List Entry
  pub rule : AnyRanking
  pub covers : List ℕ
  pub kept : List ℕ
  pub positions : List ℤ

-- an amount below zero
abbrev pub minus : ℕ → ℤ
minus n = neg_ℤ (pos n)

-- what most of the cases begin with
abbrev pub base : List Entry
base = transfer 1 Two Seven 500 ∷ transfer 2 Two Nine 300 ∷ transfer 3 Seven Nine 600 ∷ transfer 4 Nine Two 100 ∷ []

-- the row of each case
abbrev pub row_of : Case → Row
row_of case.A = record { entries = base; rule = Sending; covers = 600 ∷ 0 ∷ 0 ∷ []; kept = 1 ∷ []; positions = minus 500 ∷ pos 500 ∷ pos 0 ∷ [] }
row_of case.B = record { entries = base; rule = Sending; covers = 600 ∷ 100 ∷ 0 ∷ []; kept = 1 ∷ 3 ∷ 4 ∷ []; positions = minus 400 ∷ minus 100 ∷ pos 500 ∷ [] }
row_of case.C = record {
  entries = transfer 1 Two Seven 500 ∷ wages 2 Two Nine 300 ∷ transfer 3 Seven Nine 600 ∷ transfer 4 Nine Two 100 ∷ [];
  rule = Wages;
  covers = 600 ∷ 0 ∷ 0 ∷ [];
  kept = 2 ∷ 4 ∷ [];
  positions = minus 200 ∷ pos 0 ∷ pos 200 ∷ [];
}
row_of case.D = record {
  entries = transfer 1 Two Seven 100 ∷ transfer 2 Seven Nine 100 ∷ transfer 3 Nine Two 100 ∷ [];
  rule = Sending;
  covers = 0 ∷ 0 ∷ 0 ∷ [];
  kept = 1 ∷ 2 ∷ 3 ∷ [];
  positions = pos 0 ∷ pos 0 ∷ pos 0 ∷ [];
}
row_of case.E = record { entries = transfer 1 Two Seven 500 ∷ []; rule = Sending; covers = 500 ∷ 0 ∷ 0 ∷ []; kept = 1 ∷ []; positions = minus 500 ∷ pos 500 ∷ pos 0 ∷ [] }
row_of case.F = record { entries = transfer 1 Two Seven 500 ∷ []; rule = Sending; covers = 499 ∷ 0 ∷ 0 ∷ []; kept = []; positions = pos 0 ∷ pos 0 ∷ pos 0 ∷ [] }
row_of case.G = record {
  entries = transfer 1 Two Seven 500 ∷ transfer 2 Two Seven 0 ∷ [];
  rule = Sending;
  covers = 499 ∷ 0 ∷ 0 ∷ [];
  kept = [];
  positions = pos 0 ∷ pos 0 ∷ pos 0 ∷ [];
}
row_of case.H = record {
  entries = sent_back (transfer 1 Two Seven 500) ∷ transfer 2 Two Nine 300 ∷ transfer 3 Seven Nine 600 ∷ transfer 4 Nine Two 100 ∷ [];
  rule = Sending;
  covers = 600 ∷ 100 ∷ 0 ∷ [];
  kept = 2 ∷ 4 ∷ [];
  positions = minus 200 ∷ pos 0 ∷ pos 200 ∷ [];
}
row_of case.I = record { entries = debit 1 Two Seven 1000 30 ∷ []; rule = Sending; covers = 970 ∷ 0 ∷ 0 ∷ []; kept = 1 ∷ []; positions = minus 970 ∷ pos 970 ∷ pos 0 ∷ [] }

-- the table of all cases
abbrev pub table : List Row
table = map row_of (case.A ∷ case.B ∷ case.C ∷ case.D ∷ case.E ∷ case.F ∷ case.G ∷ case.H ∷ case.I ∷ [])

-- whether a session number is on a list
abbrev pub is_listed : List ℕ → ℕ → Bool
is_listed [] n = false
is_listed (k ∷ ks) n = k == n || is_listed ks n

-- the choice of the entries with these session numbers
abbrev pub numbered : List ℕ → Choice
numbered ks i = is_listed ks (i + 1)

-- the cover of the member at a place on the roll, unless stated 0
abbrev pub cover_in : Row → ℕ → ℕ
cover_in r m = slice_index r.covers m

-- What is kept is the greatest choice of the row's entries under its rule and covers, and the positions are those of that choice.
pub record Settled (r : Row) : Type 0 where
  pub greatest : Greatest (any_ranking r.rule) (cover_in r) r.entries (numbered r.kept)
  pub reached : map (position r.entries (numbered r.kept)) (0 ∷ 1 ∷ 2 ∷ []) ≡ r.positions

-- the cover that a row states for the member with a code
abbrev pub stated_in : Row → ℕ → ℕ
stated_in r code = cond (code == 2) (cover_in r 0) (cond (code == 7) (cover_in r 1) (cond (code == 9) (cover_in r 2) 0))
