-- One turn of the clearing of a table: the last entry of a short member is withdrawn.
use Rattle.std.proofs.Common.{◌≡◌, ℕ, ◌+◌, ◌<◌, false, List, length, get_or, set, sym, subst, arith}
use mathlib.Core.Path.{subst₃}
use Rattle.rules.specs.Order.{Order, Strict}
use Rattle.clearing.specs.Balances.{LastOf, Without, lowered}
use Rattle.clearing.specs.Choices.{entry_at, size}
use Rattle.clearing.specs.Table.{entries, marks, kept}
use Rattle.clearing.specs.declared.entry.Entry.{Entry}
use Rattle.clearing.specs.declared.place.Place.{Place}
use Rattle.clearing.proofs.Marks.{entries_long, unmarked}
use Rattle.clearing.proofs.State.{State, next, less}

module _ {ahead : Order} (strict : Strict ahead) {cover : ℕ → ℕ} (ps : List Place) {due funds : List ℕ} {count : ℕ} (s : State ahead cover (entries ps) (kept ps) due funds count)
    (m : ℕ) (small : m < 64) (short : get_or funds m 0 < get_or due m 0) (r : ℕ) (last : LastOf ahead (entries ps) (kept ps) m (length (entries ps)) r) where
  pub in_table : r < length ps
  in_table = omega (arith, last.within, entries_long ps)

  module _ (qs : List Place) (same : entries qs ≡ entries ps) (mark : marks qs ≡ set (marks ps) r false) where
    pub taken_out : Without (kept ps) (kept qs) r
    taken_out = unmarked ps qs r in_table last.chosen mark

    pub fewer : size (entries qs) (kept qs) < size (entries ps) (kept ps)
    fewer = subst (λ (es : List Entry). size es (kept qs) < size (entries ps) (kept ps)) (sym same) (less strict s m small short r last (kept qs) taken_out)

    pub turned : {due' funds' : List ℕ} →
        due' ≡ lowered due (entry_at (entries ps) r).payer (entry_at (entries ps) r).worth →
        funds' ≡ lowered funds (entry_at (entries ps) r).receiver (entry_at (entries ps) r).worth →
        State ahead cover (entries qs) (kept qs) due' funds' (count + 1)
    turned d f =
        subst₃ (λ (es : List Entry) (y z : List ℕ). State ahead cover es (kept qs) y z (count + 1)) (sym same) (sym d) (sym f)
        (next strict s m small short r last (kept qs) taken_out)
