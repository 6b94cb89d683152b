-- Positions: two's complement, and the sum of the positive ones.
use Rattle.std.proofs.Common.{◌≡◌, ℕ, zero, suc, ◌+◌, ◌-◌, ◌*◌, ◌^◌, ◌<◌, ◌≤◌, true, false, cond, ltb, List, [], ◌∷◌, ◌++◌, length, ℤ, pos, negsuc, ◌-ℤ◌, sym, ap, ◌∙◌, add_assoc, zero-add, add-one, arith, w64, SFits, of_z}
use Rattle.clearing.specs.Choices.{is_on, paid, received, receiver_of, total}
use Rattle.clearing.proofs.Marks.{worths}
use Rattle.clearing.proofs.Shares.{sum_le}
use Rattle.table.specs.Entries.{entries_of, held_places, kept_of}
use Rattle.table.proofs.Held.{held_long}
use Rattle.session.specs.Questions.{position_at}
use Rattle.session.specs.declared.session.Session.{Session}
use Rattle.result.specs.Layout.{positive, positive_sum, twos}
use Rattle.result.specs.Value.{line_at, lines_up_to}
use Rattle.result.specs.declared.member_line.MemberLine.{MemberLine}
use Rattle.result.proofs.Gathering.{gathered_more, gathered_none}

-- the bits of a number of 64 bits are its two's complement
pub twos_is : (z : ℤ) → SFits w64 z → of_z w64 z ≡ twos z
twos_is (pos n) f = let h : n < 2 ^ 63 = f.sfits in omega arith
twos_is (negsuc n) f = let h : n < 2 ^ 63 = f.sfits in omega arith

positive_le : (a b : ℕ) → positive (pos a -ℤ pos b) ≤ a
positive_le a zero = omega arith
positive_le a (suc b) =
    elim (ltb a (suc b)) as (λ v. positive (cond v (negsuc (suc b - suc a)) (pos (a - suc b))) ≤ a) [ true ↦ omega arith | false ↦ omega arith ]

-- a positive position is no more than the worth of all that a table can hold
pub position_low : (s : Session) (m : ℕ) → positive (position_at s m) ≤ 409600000000
unfolding total
position_low s m =
    let t = s.table in
    let es = entries_of t in
    let C = kept_of t in
    omega (arith, positive_le (received es C m) (paid es C m), sum_le (is_on receiver_of m) es C (length es) (worths (held_places t)), held_long t, t.within, t.small)

sum_append : (xs ys : List MemberLine) → positive_sum (xs ++ ys) ≡ positive_sum xs + positive_sum ys
sum_append [] ys = sym (zero-add (positive_sum ys))
sum_append (x ∷ xs) ys = ap (λ n. positive x.position + n) (sum_append xs ys) ∙ sym (add_assoc (positive x.position) (positive_sum xs) (positive_sum ys))

pub sum_none : (s : Session) → positive_sum (lines_up_to s 0) ≡ 0
sum_none s = ap positive_sum (gathered_none (λ i. line_at s i ∷ []))

-- one member more
pub sum_more : (s : Session) (m : ℕ) → positive_sum (lines_up_to s (m + 1)) ≡ positive_sum (lines_up_to s m) + positive (position_at s m)
sum_more s m = omega (arith, ap positive_sum (gathered_more (λ i. line_at s i ∷ []) m), sum_append (lines_up_to s m) (line_at s m ∷ []))

-- the sum over the first n members
pub sum_low : (s : Session) (n : ℕ) → positive_sum (lines_up_to s n) ≤ n * 409600000000
sum_low s zero = omega (arith, sum_none s)
sum_low s (suc n) = omega (arith, ap (λ k. positive_sum (lines_up_to s k)) (add-one n), sum_more s n, position_low s n, sum_low s n)
