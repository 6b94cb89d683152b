-- A buffer, and what is written into it behind what stands there already.
use Rattle.std.specs.Prelude.{◌≡◌, ℕ, ◌+◌, ◌≤◌, List, ◌++◌, length, take, drop}

-- the buffer once the bytes ys have gone in at a place
unfoldable pub written : List ℕ → ℕ → List ℕ → List ℕ
written xs at ys = take at xs ++ (ys ++ drop (at + length ys) xs)

-- the bytes ys went in behind the first `at` of xs, and no other byte moved
pub record Wrote (xs : List ℕ) (at : ℕ) (ys : List ℕ) (xs' : List ℕ) (at' : ℕ) : Type 0 where
  pub room : at + length ys ≤ length xs
  pub bytes : xs' ≡ written xs at ys
  pub place : at' ≡ at + length ys
  pub size : length xs' ≡ length xs

-- a buffer that begins with the bytes ys, and behind them is as it was
abbrev pub fronted : List ℕ → List ℕ → List ℕ
fronted ys old = ys ++ drop (length ys) old
