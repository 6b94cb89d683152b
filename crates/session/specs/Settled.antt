-- How a session stands that was cleared.
use Rattle.std.specs.Prelude.{◌≡◌, ℕ, true}
use Rattle.rules.specs.Order.{Order}
use Rattle.clearing.specs.Choices.{Greatest, left_out, size}
use Rattle.clearing.specs.Table.{cover_of}
use Rattle.table.specs.Entries.{entries_of, kept_of}
use Rattle.session.specs.Parts.{covers_of, stands_cleared, table_of}
use Rattle.session.specs.declared.session.Session.{Session}

-- the session stands cleared by a ranking rule and covers, by places on the roll: the covers are stored, and what is kept is the greatest
-- lawful covered choice of its entries
pub record Settled (ahead : Order) (cover : ℕ → ℕ) (s : Session) : Type 0 where
  pub cleared : stands_cleared s ≡ true
  pub covers : (m : ℕ) → cover_of (covers_of s) m ≡ cover m
  pub kept : Greatest ahead cover (entries_of (table_of s)) (kept_of (table_of s))

-- how many live entries are not kept
abbrev pub withdrawn_in : Session → ℕ
withdrawn_in s = size (entries_of (table_of s)) (left_out (entries_of (table_of s)) (kept_of (table_of s)))
