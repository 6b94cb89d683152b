-- A computed test that a choice is the greatest: it is lawful and covered, and every other live entry falls to a list of withdrawals.
use Rattle.std.proofs.Common.{◌≡◌, ℕ, zero, suc, ◌+◌, ◌<◌, Bool, true, false, not, ◌&&◌, ◌||◌, eqb, ltb, leb, List, [], ◌∷◌, length, sym, refl, ap, ◌∙◌, inl, inr, arith}
use Rattle.std.proofs.lemmas.Bool.{cases_eq, cases_lt, and_parts, and_from, or_cases, eqb-true, eq-eqb, ne_eqb, leb-true, ltb-true, both_ways}
use Rattle.rules.specs.Order.{Order}
use Rattle.clearing.specs.Choices.{entry_at, key_at, live, Choice, Within, paid, received, Lawful, Covered, Greatest}
use Rattle.clearing.specs.declared.entry.Entry.{Entry}
use Rattle.clearing.proofs.Marks.{live_past}
use Rattle.clearing.proofs.Step.{Last, never}
use Rattle.cases.specs.Settled.{is_listed, numbered}

-- a test of each place below n
abbrev pub each : (ℕ → Bool) → ℕ → Bool
each f zero = true
each f (suc n) = f n && each f n

each_at : (f : ℕ → Bool) (n : ℕ) → each f n ≡ true → (i : ℕ) → i < n → f i ≡ true
each_at f zero h i l = absurd (omega arith)
each_at f (suc n) h i l =
    let p = and_parts (f n) (each f n) h in
    elim (cases_eq i n) [
      | inl e ↦ ap f e ∙ p.0
      | inr ne ↦ each_at f n p.1 i (omega arith)
    ]

abbrev pub implies : Bool → Bool → Bool
implies true b = b
implies false b = true

then_so : (a b : Bool) → implies a b ≡ true → a ≡ true → b ≡ true
then_so true b h e = h
then_so false b h e = absurd (both_ways false refl e)

abbrev pub without : Choice → ℕ → Choice
without K r i = K i && not (eqb i r)

module _ (ahead : Order) (cover : ℕ → ℕ) (es : List Entry) where
  abbrev pub lawful? : Choice → Bool
  lawful? C =
      each (λ i. implies (C i) (live es i)) (length es)
      && each (λ i. each (λ j. implies (C i && (live es j && (eqb (entry_at es j).payer (entry_at es i).payer && ahead (key_at es j) (key_at es i)))) (C j)) (length es)) (length es)

  abbrev pub covered? : Choice → Bool
  covered? C = each (λ m. leb (paid es C m) (cover m + received es C m)) 64

  abbrev pub last? : Choice → ℕ → Bool
  last? K r = K r && each (λ i. implies (K i && eqb (entry_at es i).payer (entry_at es r).payer) (eqb i r || ahead (key_at es i) (key_at es r))) (length es)

  abbrev pub short? : Choice → ℕ → Bool
  short? K m = ltb m 64 && ltb (cover m + received es K m) (paid es K m)

  -- of what is in K, the withdrawals leave nothing outside C
  abbrev pub falls? : Choice → Choice → List ℕ → Bool
  falls? C K [] = each (λ i. implies (K i) (C i)) (length es)
  falls? C K (r ∷ rs) = last? K r && (short? K (entry_at es r).payer && falls? C (without K r) rs)

  alive_within : (K : Choice) → ((i : ℕ) → K i ≡ true → live es i ≡ true) → (i : ℕ) → K i ≡ true → i < length es
  alive_within K alive i k =
      elim (cases_lt i (length es)) [
        | inl h ↦ h
        | inr h ↦ absurd (both_ways (live es i) (live_past es i h) (alive i k))
      ]

  is_lawful : (C : Choice) → ((i : ℕ) → C i ≡ true → i < length es) → lawful? C ≡ true → Lawful ahead es C
  is_lawful C within h =
      let p = and_parts (each (λ i. implies (C i) (live es i)) (length es)) _ h in
      record {
        alive = λ i c. then_so (C i) (live es i) (each_at (λ i. implies (C i) (live es i)) (length es) p.0 i (within i c)) c;
        closed = λ i j c v e o.
            let in-i = within i c in
            let in-j = alive_within (live es) (λ k l. l) j v in
            let t = each_at _ (length es) (each_at _ (length es) p.1 i in-i) j in-j in
            then_so (C i && (live es j && (eqb (entry_at es j).payer (entry_at es i).payer && ahead (key_at es j) (key_at es i)))) (C j) t
            (and_from (C i) _ c (and_from (live es j) _ v (and_from (eqb (entry_at es j).payer (entry_at es i).payer) _ (eq-eqb (entry_at es j).payer (entry_at es i).payer e) o)));
      }

  is_covered : (C : Choice) → covered? C ≡ true → Covered cover es C
  is_covered C h = record { covered = λ m l. leb-true (paid es C m) (cover m + received es C m) (each_at (λ m. leb (paid es C m) (cover m + received es C m)) 64 h m l) }

  is_last : (K : Choice) (r : ℕ) → ((i : ℕ) → K i ≡ true → live es i ≡ true) → last? K r ≡ true → Last ahead es K (entry_at es r).payer r
  is_last K r alive h =
      let p = and_parts (K r) _ h in
      record {
        chosen = p.0;
        own = refl;
        others = λ i k e ne.
            elim (or_cases (eqb i r) (ahead (key_at es i) (key_at es r))
            (then_so (K i && eqb (entry_at es i).payer (entry_at es r).payer) (eqb i r || ahead (key_at es i) (key_at es r)) (each_at _ (length es) p.1 i (alive_within K alive i k))
            (and_from (K i) _ k (eq-eqb (entry_at es i).payer (entry_at es r).payer e)))) [
              | inl s ↦ absurd (ne (eqb-true i r s))
              | inr a ↦ a
            ];
      }

  -- whatever is lawful, covered and within K is within C
  is_above : (C K : Choice) (rs : List ℕ) → ((i : ℕ) → K i ≡ true → live es i ≡ true) → falls? C K rs ≡ true →
      (D : Choice) → Lawful ahead es D → Covered cover es D → Within D K → Within D C
  is_above C K [] alive h D l v w = λ i d. then_so (K i) (C i) (each_at (λ i. implies (K i) (C i)) (length es) h i (alive_within K alive i (w i d))) (w i d)
  is_above C K (r ∷ rs) alive h D l v w =
      let m = (entry_at es r).payer in
      let p = and_parts (last? K r) _ h in
      let q = and_parts (short? K m) (falls? C (without K r) rs) p.1 in
      let s = and_parts (ltb m 64) (ltb (cover m + received es K m) (paid es K m)) q.0 in
      let gone = never ahead cover es K m r alive (is_last K r alive p.0) (ltb-true m 64 s.0) (ltb-true (cover m + received es K m) (paid es K m) s.1) D l v w in
      is_above C (without K r) rs (λ i k. alive i (and_parts (K i) (not (eqb i r)) k).0) q.1 D l v
      (λ i d. and_from (K i) (not (eqb i r)) (w i d) (ap not (ne_eqb i r (λ e. gone (ap D (sym e) ∙ d)))))

  abbrev pub greatest? : Choice → List ℕ → Bool
  greatest? C rs = lawful? C && (covered? C && falls? C (live es) rs)

  pub is_greatest : (C : Choice) (rs : List ℕ) → ((i : ℕ) → C i ≡ true → i < length es) → greatest? C rs ≡ true → Greatest ahead cover es C
  is_greatest C rs within h =
      let p = and_parts (lawful? C) _ h in
      let q = and_parts (covered? C) (falls? C (live es) rs) p.1 in
      record {
        lawful = is_lawful C within p.0;
        enough = is_covered C q.0;
        contains = λ D l v. is_above C (live es) rs (λ i k. k) q.1 D l v l.alive;
      }

-- numbers that are at most n name places below n
abbrev pub at_most : List ℕ → ℕ → Bool
at_most [] n = true
at_most (k ∷ ks) n = leb k n && at_most ks n

pub listed_within : (ks : List ℕ) (n : ℕ) → at_most ks n ≡ true → (i : ℕ) → numbered ks i ≡ true → i < n
listed_within [] n h i e = absurd (both_ways false refl e)
listed_within (k ∷ ks) n h i e =
    let p = and_parts (leb k n) (at_most ks n) h in
    elim (or_cases (eqb k (i + 1)) (is_listed ks (i + 1)) e) [
      | inl s ↦ omega (arith, eqb-true k (i + 1) s, leb-true k n p.0)
      | inr s ↦ listed_within ks n p.1 i s
    ]
