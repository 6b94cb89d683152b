-- Positions add up: all to zero, and those between pairs to those of members.
use Rattle.std.proofs.Common.{◌≡◌, ℕ, zero, suc, ◌<◌, Bool, true, false, cond, ◌&&◌, eqb, List, length, pos, ◌-ℤ◌, neg_ℤ, sym, refl, ap, ◌∙◌, arith}
use lib.IntN.{+ℤ_invr}
use Rattle.std.proofs.lemmas.Int.{ints}
use Rattle.clearing.specs.Choices.{up_to, entry_at, Choice, share, total, is_on, payer_of, receiver_of, paid, received}
use Rattle.clearing.specs.Laws.{BilateralsAddUp, BilateralsOpposite, NothingWithItself, PositionsCancel}
use Rattle.clearing.specs.Positions.{signed_up_to, position, is_between, paid_to}
use Rattle.clearing.specs.Table.{entries}
use Rattle.clearing.specs.declared.entry.Entry.{Entry}
use Rattle.clearing.proofs.Marks.{payers, receivers}
use Rattle.clearing.proofs.Sums.{up_to_same, up_to_swap, up_to_one}

apart : (f g : ℕ → ℕ) (n : ℕ) → signed_up_to (λ m. pos (f m) -ℤ pos (g m)) n ≡ pos (up_to f n) -ℤ pos (up_to g n)
unfolding signed_up_to up_to
apart f g zero = refl
apart f g (suc n) = omega (arith, ints, apart f g n)

regrouped : (c a b : Bool) (w : ℕ) → (cond (c && (a && b)) w 0 ≡ cond ((c && b) && a) w 0) × (cond (c && (b && a)) w 0 ≡ cond ((c && b) && a) w 0)
regrouped true true true w = (refl, refl)
regrouped true true false w = (refl, refl)
regrouped true false true w = (refl, refl)
regrouped true false false w = (refl, refl)
regrouped false a b w = (refl, refl)

module _ (es : List Entry) (C : Choice) where
  -- every entry has one payer, and one receiver
  all_sides : (n : ℕ) (side : Entry → ℕ) → ((i : ℕ) → i < length es → side (entry_at es i) < n) → up_to (λ m. total (is_on side m) es C) n ≡ up_to (λ i. cond (C i) (entry_at es i).worth 0) (length es)
  unfolding total
  all_sides n side h =
      up_to_swap (λ m. share (is_on side m) es C) n (length es)
      ∙ up_to_same (λ i. up_to (λ m. share (is_on side m) es C i) n) (λ i. cond (C i) (entry_at es i).worth 0) (length es)
      (λ i l. up_to_one (C i) (side (entry_at es i)) (entry_at es i).worth n (h i l))

  -- where every entry is between the first n places, their positions add up to zero
  pub cancel_on : (n : ℕ) → ((i : ℕ) → i < length es → (entry_at es i).payer < n) → ((i : ℕ) → i < length es → (entry_at es i).receiver < n) → signed_up_to (position es C) n ≡ pos 0
  cancel_on n p r =
      apart (received es C) (paid es C) n
      ∙ ap (λ (x : ℕ). pos x -ℤ pos (up_to (paid es C) n)) (all_sides n receiver_of r ∙ sym (all_sides n payer_of p))
      ∙ +ℤ_invr (pos (up_to (paid es C) n))

  -- what a member pays goes to some member
  all_paid : ((i : ℕ) → (entry_at es i).receiver < 64) → (m : ℕ) → up_to (λ b. paid_to es C m b) 64 ≡ paid es C m
  unfolding total
  all_paid h m =
      up_to_swap (λ b. share (is_between m b) es C) 64 (length es)
      ∙ up_to_same (λ i. up_to (λ b. share (is_between m b) es C i) 64) (share (is_on payer_of m) es C) (length es)
      (λ i l.
      let e = entry_at es i in
      up_to_same (λ b. share (is_between m b) es C i) (λ b. cond ((C i && eqb e.payer m) && eqb e.receiver b) e.worth 0) 64
      (λ b k. (regrouped (C i) (eqb e.receiver b) (eqb e.payer m) e.worth).1)
      ∙ up_to_one (C i && eqb e.payer m) e.receiver e.worth 64 (h i))

  -- what it receives comes from some member
  all_received : ((i : ℕ) → (entry_at es i).payer < 64) → (m : ℕ) → up_to (λ b. paid_to es C b m) 64 ≡ received es C m
  unfolding total
  all_received h m =
      up_to_swap (λ b. share (is_between b m) es C) 64 (length es)
      ∙ up_to_same (λ i. up_to (λ b. share (is_between b m) es C i) 64) (share (is_on receiver_of m) es C) (length es)
      (λ i l.
      let e = entry_at es i in
      up_to_same (λ b. share (is_between b m) es C i) (λ b. cond ((C i && eqb e.receiver m) && eqb e.payer b) e.worth 0) 64
      (λ b k. (regrouped (C i) (eqb e.payer b) (eqb e.receiver m) e.worth).0)
      ∙ up_to_one (C i && eqb e.receiver m) e.payer e.worth 64 (h i))

pub cancel : PositionsCancel
cancel ps C = cancel_on (entries ps) C 64 (λ i l. payers ps i) (λ i l. receivers ps i)

pub opposite : BilateralsOpposite
opposite es C a b = turned (paid_to es C b a) (paid_to es C a b)
  where
    turned : (x y : ℕ) → pos x -ℤ pos y ≡ neg_ℤ (pos y -ℤ pos x)
    turned x y = omega (arith, ints)

pub with_itself : NothingWithItself
with_itself es C a = +ℤ_invr (pos (paid_to es C a a))

pub add_up : BilateralsAddUp
add_up ps C m =
    let es = entries ps in
    apart (λ b. paid_to es C b m) (λ b. paid_to es C m b) 64
    ∙ ap (λ (x : ℕ). pos x -ℤ pos (up_to (λ b. paid_to es C m b) 64)) (all_received es C (payers ps) m)
    ∙ ap (λ (x : ℕ). pos (received es C m) -ℤ pos x) (all_paid es C (receivers ps) m)
