-- What a ranking rule is.
use Rattle.std.specs.Prelude.{◌≡◌, Bool, true, false, ◌⊎◌, ◌≢◌}
use Rattle.rules.specs.declared.ranking.Key.{Key}

-- whether the first record stands before the second
abbrev pub Order : Type 0
Order = Key → Key → Bool

-- None stands before itself, it carries over from pair to pair, and of two different numbers one stands before the other.
-- (That not both do follows from the first two.)
pub record Strict (ahead : Order) : Type 0 where
  pub irreflexive : (a : Key) → ahead a a ≡ false
  pub transitive : (a b c : Key) → ahead a b ≡ true → ahead b c ≡ true → ahead a c ≡ true
  pub total : (a b : Key) → (a.number ≢ b.number) → (ahead a b ≡ true) ⊎ (ahead b a ≡ true)
