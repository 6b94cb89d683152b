-- Amounts by member, as they are added up entry by entry on top of what each member had.
use Rattle.std.proofs.Common.{◌≡◌, ℕ, ◌+◌, ◌*◌, ◌<◌, ◌≤◌, true, false, List, length, get_or, ap, ◌∙◌, arith, length-set}
use Rattle.clearing.specs.Balances.{raised}
use Rattle.clearing.specs.Choices.{Choice, entry_at, is_on, share, total, up_to}
use Rattle.clearing.specs.declared.entry.Entry.{Entry}
use Rattle.clearing.proofs.Shares.{sum_le, tally_more, tally_skip}
use Rattle.clearing.proofs.Sums.{up_to_none}

-- the first n entries of the choice are added up, each for the member on that side of it
pub record Tallied (side : Entry → ℕ) (es : List Entry) (C : Choice) (had : ℕ → ℕ) (n : ℕ) (xs : List ℕ) : Type 0 where
  pub long : length xs ≡ 64
  pub each : (m : ℕ) → m < 64 → get_or xs m 0 ≡ had m + up_to (share (is_on side m) es C) n

pub tallied_none : (side : Entry → ℕ) (es : List Entry) (C : Choice) (had : ℕ → ℕ) (xs : List ℕ) → length xs ≡ 64 → ((m : ℕ) → get_or xs m 0 ≡ had m) → Tallied side es C had 0 xs
tallied_none side es C had xs long each = record { long = long; each = λ m h. omega (arith, each m, up_to_none (share (is_on side m) es C)) }

module _ {side : Entry → ℕ} {es : List Entry} {C : Choice} {had : ℕ → ℕ} {n : ℕ} {xs : List ℕ} (t : Tallied side es C had n xs) where
  pub tallied_more : (e : Entry) {ys : List ℕ} → e ≡ entry_at es n → C n ≡ true → ys ≡ raised xs (side e) e.worth → Tallied side es C had (n + 1) ys
  tallied_more e here c is = record {
    long = ap length is ∙ length-set _ _ _ ∙ t.long;
    each = λ m h. ap (λ (zs : List ℕ). get_or zs m 0) is ∙ ap (λ (x : Entry). get_or (raised xs (side x) x.worth) m 0) here ∙ tally_more side es C xs n m (had m) t.long h c (t.each m h);
  }

  pub tallied_skip : {ys : List ℕ} → C n ≡ false → ys ≡ xs → Tallied side es C had (n + 1) ys
  tallied_skip c is = record {
    long = ap length is ∙ t.long;
    each = λ m h. ap (λ (zs : List ℕ). get_or zs m 0) is ∙ tally_skip side es C xs n m (had m) c (t.each m h);
  }

  pub tallied_all : n ≡ length es → (m : ℕ) → m < 64 → get_or xs m 0 ≡ had m + total (is_on side m) es C
  unfolding total
  tallied_all end m h = t.each m h ∙ ap (λ (k : ℕ). had m + up_to (share (is_on side m) es C) k) end

  -- no entry is worth more than a million
  pub tallied_low : ((k : ℕ) → (entry_at es k).worth ≤ 100_000_000) → (m : ℕ) → m < 64 → get_or xs m 0 ≤ had m + n * 100_000_000
  tallied_low worths m h = omega (arith, t.each m h, sum_le (is_on side m) es C n worths)
