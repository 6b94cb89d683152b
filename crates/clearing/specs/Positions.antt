-- Positions over a choice of entries, of one member and between two.
use Rattle.std.specs.Prelude.{ℕ, zero, suc, Bool, ◌&&◌, List, ℤ, pos, ◌+ℤ◌, ◌-ℤ◌, ◌==◌}
use Rattle.clearing.specs.Choices.{Choice, paid, received, total}
use Rattle.clearing.specs.declared.entry.Entry.{Entry}

-- f 0 + .. + f (n - 1)
unfoldable pub signed_up_to : (ℕ → ℤ) → ℕ → ℤ
signed_up_to f zero = pos 0
signed_up_to f (suc n) = signed_up_to f n +ℤ f n

-- the worth received minus the worth paid
abbrev pub position : List Entry → Choice → ℕ → ℤ
position es C m = pos (received es C m) -ℤ pos (paid es C m)

abbrev pub is_between : ℕ → ℕ → Entry → Bool
is_between payer receiver e = e.payer == payer && e.receiver == receiver

-- the worth that one member pays to another
abbrev pub paid_to : List Entry → Choice → ℕ → ℕ → ℕ
paid_to es C payer receiver = total (is_between payer receiver) es C

-- the position that counts only what passes between two members, seen from the first
abbrev pub bilateral : List Entry → Choice → ℕ → ℕ → ℤ
bilateral es C a b = pos (paid_to es C b a) -ℤ pos (paid_to es C a b)
