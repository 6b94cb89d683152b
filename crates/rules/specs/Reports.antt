-- Lists of reports: the amount that is held for each member code.
use Rattle.std.specs.Prelude.{◌≡◌, ℕ, ◌+◌, ◌<◌, Bool, true, false, cond, not, ◌&&◌, ◌||◌, List, [], ◌∷◌, length, Ok, Err, Result, ◌==◌, ◌≢◌, nat_lt, slice_index_or}
use Rattle.terms.specs.declared.refusal.Refusal.{Refusal}
use Rattle.terms.specs.declared.refusal.Refusal.TheVariants.{ReportLimits, TooManyReports}
use Rattle.rules.specs.declared.book.Report.{Report}

-- the amount that is reported for a code; 0 where none is
abbrev pub amount_of : ℕ → List Report → ℕ
amount_of code [] = 0
amount_of code (r ∷ rs) = cond (r.code == code) r.amount (amount_of code rs)

-- whether there is a report for the code
abbrev pub holds : ℕ → List Report → Bool
holds code [] = false
holds code (r ∷ rs) = r.code == code || holds code rs

-- whether no two reports are for one code, so that there are as many codes as reports
abbrev pub are_apart : List Report → Bool
are_apart [] = true
are_apart (r ∷ rs) = not (holds r.code rs) && are_apart rs

-- the code of the report at a place of the list
abbrev pub code_at : List Report → ℕ → ℕ
code_at rs i = (slice_index_or rs i (record { code = 0; amount = 0 })).code

-- and its amount
abbrev pub amount_at : List Report → ℕ → ℕ
amount_at rs i = (slice_index_or rs i (record { code = 0; amount = 0 })).amount

-- nothing before the place n is for the code
abbrev pub Misses : ℕ → List Report → ℕ → Type 0
Misses code rs n = (k : ℕ) → k < n → code_at rs k ≢ code

-- the place is the first for the code, and among the first n
pub record FirstFor (code : ℕ) (rs : List Report) (n at : ℕ) : Type 0 where
  pub within : at < n
  pub before : Misses code rs at
  pub found : code_at rs at ≡ code

-- What a report that is taken does: its code has the amount, every other code what it had, and no code besides is held.
pub record Reported (code amount : ℕ) (old new : List Report) : Type 0 where
  pub own : amount_of code new ≡ amount
  pub others : (other : ℕ) → (other ≢ code) → amount_of other new ≡ amount_of other old
  pub codes : (other : ℕ) → holds other new ≡ (code == other || holds other old)
  pub count : length new ≡ cond (holds code old) (length old) (length old + 1)

-- whether a report for the code finds room among the 64 codes
abbrev pub has_room : ℕ → List Report → Bool
has_room code held = holds code held || nat_lt (length held) 64

-- the answer to a report whose code and values are lawful
abbrev pub room_for : ℕ → List Report → Result (Unit {0}) Refusal
room_for code held = cond (has_room code held) (Ok tt) (Err TooManyReports)

-- the answer to a report: its code and values are looked at first, then the room
abbrev pub answer_to : Bool → ℕ → List Report → Result (Unit {0}) Refusal
answer_to lawful code held = cond lawful (room_for code held) (Err ReportLimits)
