-- What stands behind the first bytes of a value.
use Rattle.std.proofs.Common.{◌≡◌, ℕ, ◌-◌, List, length, take, drop, arith, length-drop, take_all}

pub rest_is : (n : ℕ) (v : List ℕ) → take (length v - n) (drop n v) ≡ drop n v
rest_is n v = take_all (length v - n) (drop n v) (omega (arith, length-drop n v))
