-- The sender of a file, as its rows see it.
use Rattle.std.specs.Prelude.{ℕ}

pub record SenderValue : Type 0 where
  pub code : ℕ
  -- on the roll
  pub place : ℕ
