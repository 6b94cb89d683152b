-- What each member is to pay and what it has to pay it from, as two lists of amounts.
use Rattle.std.proofs.Common.{◌≡◌, ℕ, ◌<◌, ◌≤◌, List, length, get_or, set, replicate, sym, refl, ap, ◌∙◌, inl, inr, arith, length-set}
use lib.ListN.{get_or-replicate, length-map, length-replicate}
use Rattle.std.proofs.lemmas.List.{get_or-map, get_or_past, map-set, set-get_or}
use Rattle.std.proofs.lemmas.Bool.{cases_lt}
use Rattle.std.specs.List.{AllWithin, HoldsAt}
use Rattle.std.specs.Option.{MatchOption}
use Rattle.std.specs.Prelude.{Option, Some, None}
use Rattle.clearing.specs.Balances.{SomeShort}
use Rattle.clearing.specs.Sums.{dues, means}
use Rattle.clearing.specs.declared.balances.Balance.{Balance}

module _ (bs : List Balance) where
  pub dues_long : length (dues bs) ≡ length bs
  dues_long = length-map bs (λ (b : Balance). b.due)

  pub means_long : length (means bs) ≡ length bs
  means_long = length-map bs (λ (b : Balance). b.funds)

  module _ (i : ℕ) (d : Balance) (h : i < length bs) where
    pub due_is : get_or (dues bs) i 0 ≡ (get_or bs i d).due
    due_is = get_or-map (λ (b : Balance). b.due) bs i d 0 h

    pub funds_is : get_or (means bs) i 0 ≡ (get_or bs i d).funds
    funds_is = get_or-map (λ (b : Balance). b.funds) bs i d 0 h

    module _ (x : Balance) where
      pub dues_kept : x.due ≡ (get_or bs i d).due → dues (set bs i x) ≡ dues bs
      dues_kept e = map-set (λ (b : Balance). b.due) bs i x ∙ ap (set (dues bs) i) (e ∙ sym due_is) ∙ set-get_or (dues bs) i 0

      pub means_kept : x.funds ≡ (get_or bs i d).funds → means (set bs i x) ≡ means bs
      means_kept e = map-set (λ (b : Balance). b.funds) bs i x ∙ ap (set (means bs) i) (e ∙ sym funds_is) ∙ set-get_or (means bs) i 0

-- limits of all amounts are limits of each balance
pub read_low : (bs : List Balance) (most : ℕ) → length bs ≡ 64 → ((m : ℕ) → m < 64 → get_or (dues bs) m 0 ≤ most) → ((m : ℕ) → m < 64 → get_or (means bs) m 0 ≤ most) → (m : ℕ) (x : Balance) → m < length bs → x ≡ get_or bs m x →
    (x.due ≤ most) × (x.funds ≤ most)
read_low bs most long due funds m x h is = (
  omega (arith, due m (omega arith), due_is bs m x h, ap (λ (b : Balance). b.due) is),
  omega (arith, funds m (omega arith), funds_is bs m x h, ap (λ (b : Balance). b.funds) is),
)

-- a change of what one member is to pay, then one of what another has
module _ (bs : List Balance) (p r : ℕ) (d : Balance) (lp : p < length bs) (lr : r < length bs) (f g : ℕ → ℕ) where
  abbrev pub payer_changed : List Balance
  payer_changed = set bs p (record { due = f (get_or bs p d).due; funds = (get_or bs p d).funds })

  abbrev pub both_changed : List Balance
  both_changed = set payer_changed r (record { due = (get_or payer_changed r d).due; funds = g (get_or payer_changed r d).funds })

  lr' : r < length payer_changed
  lr' = omega (arith, length-set bs p (record { due = f (get_or bs p d).due; funds = (get_or bs p d).funds }))

  pub means_before : means payer_changed ≡ means bs
  means_before = means_kept bs p d lp _ refl

  pub funds_before : (get_or payer_changed r d).funds ≡ get_or (means bs) r 0
  funds_before = sym (funds_is payer_changed r d lr') ∙ ap (λ (xs : List ℕ). get_or xs r 0) means_before

  pub dues_changed : dues both_changed ≡ set (dues bs) p (f (get_or (dues bs) p 0))
  dues_changed = dues_kept payer_changed r d lr' _ refl ∙ map-set (λ (b : Balance). b.due) bs p _ ∙ ap (λ (n : ℕ). set (dues bs) p (f n)) (sym (due_is bs p d lp))

  pub means_changed : means both_changed ≡ set (means bs) r (g (get_or (means bs) r 0))
  means_changed = map-set (λ (b : Balance). b.funds) payer_changed r _ ∙ (λ i. set (means_before i) r (g (funds_before i)))

-- nothing is due yet
pub none_due : (m : ℕ) → get_or (dues (replicate 64 (record { due = 0; funds = 0 }))) m 0 ≡ 0
none_due m =
    let d : Balance = record { due = 0; funds = 0 } in
    let bs : List Balance = replicate 64 d in
    let long : length bs ≡ 64 = length-replicate {A = Balance} 64 d in
    elim (cases_lt m 64) [
      | inl h ↦ due_is bs m d (omega arith) ∙ ap (λ (b : Balance). b.due) (get_or-replicate {A = Balance} 64 m d d h)
      | inr h ↦ get_or_past (dues bs) m 0 (omega (arith, dues_long bs))
    ]

-- the first balance that is short is that of a member that is
abbrev pub IsShort : Balance → Type 0
IsShort b = b.funds < b.due

abbrev pub IsEnough : Balance → Type 0
IsEnough b = b.due ≤ b.funds

pub some_short : (bs : List Balance) → length bs ≡ 64 → (r : Option ℕ) →
    MatchOption r (AllWithin IsEnough bs 0 (length bs)) (λ i. (i < length bs) × HoldsAt IsShort bs i × AllWithin IsEnough bs 0 i) → SomeShort bs r
some_short bs long None h = λ m l.
    let d : Balance = record { due = 0; funds = 0 } in
    omega (arith, due_is bs m d (omega arith), funds_is bs m d (omega arith), h m d (omega arith) (omega arith))
some_short bs long (Some m) h =
    let d : Balance = record { due = 0; funds = 0 } in
    (omega arith, omega (arith, due_is bs m d h.0, funds_is bs m d h.0, h.1 d))
