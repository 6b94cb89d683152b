-- What a pen puts into its buffer.
use Rattle.std.specs.Prelude.{◌≡◌, ℕ, List}
use Rattle.pen.specs.Buffer.{Wrote}
use Rattle.pen.specs.declared.pen.Pen.{Pen}

-- the pen put the bytes where it stood, and stands behind them, over the same buffer
pub record Puts (old new : Pen) (bytes : List ℕ) : Type 0 where
  pub name : new.out.ghost_name ≡ old.out.ghost_name
  pub wrote : Wrote old.out.now old.at bytes new.out.now new.at
