-- Entries in lanes: the last of a member is the top that no other top of its stands behind; one entry more on a lane, and a top taken off.
use Rattle.std.proofs.Common.{◌≡◌, ℕ, zero, suc, ◌+◌, ◌-◌, ◌*◌, ◌%◌, ◌<◌, ◌≤◌, max, Bool, true, false, cond, ◌&&◌, ◌||◌, eqb, ltb, ◌⊎◌, List, length, get_or, set, sym, refl, ap, ◌∙◌, subst, subst₂, inl, inr, arith}
use Rattle.std.proofs.lemmas.List.{get_or-set_same, get_or-set_other}
use Rattle.std.proofs.lemmas.Bool.{cases_eq, cases_lt, cases_Bool, and_cases, and_parts, or_cases, or_parts, eqb-true, eqb-false, eq-eqb, ltb-true, ltb-false, le-ltb, ne_eqb, cond-true, cond-false, both_ways}
use Rattle.rules.specs.Order.{Order, Strict}
use Rattle.clearing.specs.Balances.{LastOf, NoneOf, Without}
use Rattle.clearing.specs.Choices.{Choice, entry_at, key_at}
use Rattle.clearing.specs.Lanes.{LaneOf, Laned, Narrow, Topmost, comes_after}
use Rattle.clearing.specs.declared.entry.Entry.{Entry}

module _ (ahead : Order) (es : List Entry) where
  -- b comes after a: there is a b, and a is none or stands before it
  pub after_is : (a b : ℕ) → comes_after ahead es a b ≡ true → (0 < b) × ((a ≡ 0) ⊎ (ahead (key_at es (a - 1)) (key_at es (b - 1)) ≡ true))
  after_is a b h =
      let p = and_parts (ltb 0 b) (eqb a 0 || ahead (key_at es (a - 1)) (key_at es (b - 1))) h in (
        ltb-true 0 b p.0,
        elim (or_cases (eqb a 0) (ahead (key_at es (a - 1)) (key_at es (b - 1))) p.1) [ inl e ↦ inl (eqb-true a 0 e) | inr e ↦ inr e ],
      )

  -- b does not come after a: there is no b, or there is an a and it does not stand before b
  pub not_after_is : (a b : ℕ) → comes_after ahead es a b ≡ false → (b ≡ 0) ⊎ ((0 < a) × (ahead (key_at es (a - 1)) (key_at es (b - 1)) ≡ false))
  not_after_is a b h =
      elim (and_cases (ltb 0 b) (eqb a 0 || ahead (key_at es (a - 1)) (key_at es (b - 1))) h) [
        | inl e ↦ inl (omega (arith, ltb-false 0 b e))
        | inr e ↦
            let p = or_parts (eqb a 0) (ahead (key_at es (a - 1)) (key_at es (b - 1))) e in
            inr (elim (cases_eq a 0) [ inl z ↦ absurd (eqb-false a 0 p.0 z) | inr ne ↦ omega arith ], p.1)
      ]

  pub none_after : (a b : ℕ) → b ≡ 0 → comes_after ahead es a b ≡ false
  none_after a b e = ap (λ (x : Bool). x && (eqb a 0 || ahead (key_at es (a - 1)) (key_at es (b - 1)))) (le-ltb 0 b (omega arith))

  stands_after : (a b : ℕ) → 0 < a → ahead (key_at es (a - 1)) (key_at es (b - 1)) ≡ false → comes_after ahead es a b ≡ false
  stands_after a b h e =
      elim (cases_Bool (ltb 0 b)) [
        | inl t ↦ ap (λ (x : Bool). x && (eqb a 0 || ahead (key_at es (a - 1)) (key_at es (b - 1)))) t ∙ ap (λ (x : Bool). x || ahead (key_at es (a - 1)) (key_at es (b - 1))) (ne_eqb a 0 (λ z. omega arith)) ∙ e
        | inr f ↦ ap (λ (x : Bool). x && (eqb a 0 || ahead (key_at es (a - 1)) (key_at es (b - 1)))) f
      ]

  -- what does not come after a does not come after what comes after a
  pub after_more : Strict ahead → (a b c : ℕ) → comes_after ahead es a b ≡ true → comes_after ahead es a c ≡ false → comes_after ahead es b c ≡ false
  after_more strict a b c t f =
      let p = after_is a b t in
      elim (not_after_is a c f) [
        | inl e ↦ none_after b c e
        | inr q ↦ elim p.1 [
          | inl z ↦ absurd (omega (arith, z, q.0))
          | inr o ↦ elim (cases_Bool (ahead (key_at es (b - 1)) (key_at es (c - 1)))) [
            | inl x ↦ absurd (both_ways (ahead (key_at es (a - 1)) (key_at es (c - 1))) q.1 (strict.transitive (key_at es (a - 1)) (key_at es (b - 1)) (key_at es (c - 1)) o x))
            | inr x ↦ stands_after b c p.0 x
          ]
        ]
      ]

  -- nothing comes after itself, but that there is something
  pub after_itself : Strict ahead → (a : ℕ) → comes_after ahead es a a ≡ false
  after_itself strict a =
      elim (cases_eq a 0) [
        | inl e ↦ none_after a a e
        | inr ne ↦ stands_after a a (omega arith) (strict.irreflexive (key_at es (a - 1)))
      ]

  -- of one lane, it is the one; and one lane more is looked at
  module _ (strict : Strict ahead) (tops : List ℕ) (m : ℕ) where
    pub topmost_one : Topmost ahead es tops m (m * 4 + 1) (m * 4)
    topmost_one = record {
      lane = (omega arith, omega arith);
      others = λ k low high.
          let e : k ≡ m * 4 = omega arith in
          ap (λ (x : ℕ). comes_after ahead es (get_or tops (m * 4) 0) (get_or tops x 0)) e ∙ after_itself strict (get_or tops (m * 4) 0);
    }

    pub topmost_take : (l k : ℕ) → m * 4 ≤ k → k < m * 4 + 4 → comes_after ahead es (get_or tops l 0) (get_or tops k 0) ≡ true → Topmost ahead es tops m k l → Topmost ahead es tops m (k + 1) k
    topmost_take l k low high t h = record {
      lane = (low, high);
      others = λ j lj hj. elim (cases_eq j k) [
        | inl e ↦ ap (λ (x : ℕ). comes_after ahead es (get_or tops k 0) (get_or tops x 0)) e ∙ after_itself strict (get_or tops k 0)
        | inr ne ↦ after_more strict (get_or tops l 0) (get_or tops k 0) (get_or tops j 0) t (h.others j lj (omega arith))
      ];
    }

    pub topmost_stay : (l k : ℕ) → comes_after ahead es (get_or tops l 0) (get_or tops k 0) ≡ false → Topmost ahead es tops m k l → Topmost ahead es tops m (k + 1) l
    topmost_stay l k f h = record {
      lane = h.lane;
      others = λ j lj hj. elim (cases_eq j k) [
        | inl e ↦ ap (λ (x : ℕ). comes_after ahead es (get_or tops l 0) (get_or tops x 0)) e ∙ f
        | inr ne ↦ h.others j lj (omega arith)
      ];
    }

    -- the lanes that no member uses need not be looked at
    pub topmost_all : (l n widest : ℕ) → Narrow tops widest → m * 4 + widest ≤ n → Topmost ahead es tops m n l → Topmost ahead es tops m (m * 4 + 4) l
    topmost_all l n widest narrow far h = record {
      lane = h.lane;
      others = λ j lj hj. elim (cases_lt j n) [
        | inl lt ↦ h.others j lj lt
        | inr ge ↦
            let w : j % 4 ≡ j - m * 4 = omega arith in
            none_after (get_or tops l 0) (get_or tops j 0) (narrow j (omega arith))
      ];
    }

module _ {ahead : Order} (strict : Strict ahead) {es : List Entry} {C : Choice} {n : ℕ} {tops below : List ℕ} (h : Laned ahead es C n tops below) where
  -- the top of an entry's lane is the entry, or stands behind it
  climb : (k i : ℕ) → i < n → n ≤ i + k → C i ≡ true → (t : ℕ) × (get_or tops (h.lane i) 0 ≡ t + 1) × ((i ≡ t) ⊎ (ahead (key_at es i) (key_at es t) ≡ true))
  climb zero i lt far c = absurd (omega arith)
  climb (suc k) i lt far c =
      elim (h.on i lt c) [
        | inl e ↦ (i, e, inl refl)
        | inr p ↦
            let j = p.0 in
            let q = h.under j i p.1 p.2 p.4 in
            let r = climb k j p.1 (omega (arith, q.0)) p.2 in (
              r.0,
              ap (λ (l : ℕ). get_or tops l 0) (sym p.3) ∙ r.1,
              elim r.2 [
                | inl e ↦ inr (subst (λ (x : ℕ). ahead (key_at es i) (key_at es x) ≡ true) e q.3)
                | inr a ↦ inr (strict.transitive (key_at es i) (key_at es j) (key_at es r.0) q.3 a)
              ],
            )
      ]

  pub topped : (i : ℕ) → i < n → C i ≡ true → (t : ℕ) × (get_or tops (h.lane i) 0 ≡ t + 1) × ((i ≡ t) ⊎ (ahead (key_at es i) (key_at es t) ≡ true))
  topped i lt c = climb n i lt (omega arith) c

  pub top_le : (l : ℕ) → l < 256 → get_or tops l 0 ≤ n
  top_le l lt =
      elim (cases_eq (get_or tops l 0) 0) [
        | inl z ↦ omega arith
        | inr ne ↦ let q = h.top l (get_or tops l 0 - 1) lt (omega arith) in omega (arith, q.0)
      ]

  module _ (m l : ℕ) (small : m < 64) (most : Topmost ahead es tops m (m * 4 + 4) l) where
    -- a member with no top has no entry
    pub nothing : get_or tops l 0 ≡ 0 → NoneOf es C m n
    nothing e i lt c p =
        let q = topped i lt c in
        let o = h.own i lt c in
        elim (not_after_is ahead es (get_or tops l 0) (get_or tops (h.lane i) 0) (most.others (h.lane i) (omega (arith, p, o.0)) (omega (arith, p, o.1)))) [
          | inl z ↦ omega (arith, z, q.1)
          | inr x ↦ omega (arith, e, x.0)
        ]

    behind : (r : ℕ) → get_or tops l 0 ≡ r + 1 → (i : ℕ) → i < n → C i ≡ true → (entry_at es i).payer ≡ m → (i ≡ r → ⊥) → ahead (key_at es i) (key_at es r) ≡ true
    behind r e i lt c p ne =
        let q = topped i lt c in
        let t = q.0 in
        let o = h.own i lt c in
        let k = h.lane i in
        let not-above : ahead (key_at es r) (key_at es t) ≡ false =
        elim (not_after_is ahead es (get_or tops l 0) (get_or tops k 0) (most.others k (omega (arith, p, o.0)) (omega (arith, p, o.1)))) [
          | inl z ↦ absurd (omega (arith, z, q.1))
          | inr x ↦
              let er : get_or tops l 0 - 1 ≡ r = omega arith in
              let et : get_or tops k 0 - 1 ≡ t = omega (arith, q.1) in
              ap (λ (y : ℕ). ahead (key_at es y) (key_at es t)) (sym er) ∙ ap (λ (y : ℕ). ahead (key_at es (get_or tops l 0 - 1)) (key_at es y)) (sym et) ∙ x.1
        ] in
        elim (cases_eq t r) [
          | inl s ↦ elim q.2 [
            | inl x ↦ absurd (ne (x ∙ s))
            | inr a ↦ subst (λ (y : ℕ). ahead (key_at es i) (key_at es y) ≡ true) s a
          ]
          | inr nt ↦
              let a : ahead (key_at es t) (key_at es r) ≡ true =
              elim (strict.total (key_at es t) (key_at es r) (λ x. nt (omega arith))) [
                | inl y ↦ y
                | inr y ↦ absurd (both_ways (ahead (key_at es r) (key_at es t)) not-above y)
              ] in
              elim q.2 [
                | inl x ↦ subst (λ (y : ℕ). ahead (key_at es y) (key_at es r) ≡ true) (sym x) a
                | inr b ↦ strict.transitive (key_at es i) (key_at es t) (key_at es r) b a
              ]
        ]

    -- the top that no other stands behind is the member's last entry
    pub last_top : n ≡ length es → (r : ℕ) → get_or tops l 0 ≡ r + 1 → LastOf ahead es C m n r
    last_top all r e =
        let q = h.top l r (omega (arith, most.lane.1)) e in
        let o = h.own r q.0 q.1 in
        record {
          within = omega (arith, q.0);
          chosen = q.1;
          own = omega (arith, q.2, o.0, o.1, most.lane.0, most.lane.1);
          others = behind r e;
        }

  module _ (l r : ℕ) (small : l < length tops) (few : length tops ≡ 256) (e : get_or tops l 0 ≡ r + 1) (C' : Choice) (w : Without C C' r) where
    was : (i : ℕ) → C' i ≡ true → (C i ≡ true) × (i ≡ r → ⊥)
    was i c =
        let ne : (i ≡ r → ⊥) = λ s. both_ways (C' i) (ap C' s ∙ w.out) c in
        (sym (w.others i ne) ∙ c, ne)

    stays : (i : ℕ) → C i ≡ true → (i ≡ r → ⊥) → C' i ≡ true
    stays i c ne = w.others i ne ∙ c

    r_in : (r < n) × (C r ≡ true) × (h.lane r ≡ l)
    r_in = h.top l r (omega arith) e

    -- nothing lies above the top
    none_above : (j : ℕ) → j < n → C j ≡ true → get_or below j 0 ≡ r + 1 → ⊥
    none_above j lt c b =
        let q = h.under j r lt c b in
        let p = topped j lt c in
        let same : p.0 ≡ r = omega (arith, p.1, e, ap (λ (x : ℕ). get_or tops x 0) (sym q.2 ∙ r_in.2)) in
        elim p.2 [
          | inl s ↦ omega (arith, q.0, s, same)
          | inr a ↦ both_ways (ahead (key_at es r) (key_at es r)) (strict.irreflexive (key_at es r))
              (strict.transitive (key_at es r) (key_at es j) (key_at es r) q.3 (subst (λ (x : ℕ). ahead (key_at es j) (key_at es x) ≡ true) same a))
        ]

    here : get_or (set tops l (get_or below r 0)) l 0 ≡ get_or below r 0
    here = get_or-set_same tops l (get_or below r 0) 0 small

    there : (k : ℕ) → (k ≡ l → ⊥) → get_or (set tops l (get_or below r 0)) k 0 ≡ get_or tops k 0
    there k ne = get_or-set_other tops l k (get_or below r 0) 0 ne

    -- the top of a lane taken off
    pub lane_less : Laned ahead es C' n (set tops l (get_or below r 0)) below
    lane_less = record {
      lane = h.lane;
      own = λ i lt c. h.own i lt (was i c).0;
      on = λ i lt c.
          let o = was i c in
          elim (h.on i lt o.0) [
            | inl s ↦ inl (there (h.lane i) (λ x. o.1 (omega (arith, s, e, ap (λ (y : ℕ). get_or tops y 0) x))) ∙ s)
            | inr p ↦ elim (cases_eq p.0 r) [
              | inl s ↦ inl (
                  ap (λ (y : ℕ). get_or (set tops l (get_or below r 0)) y 0) (sym p.3 ∙ ap h.lane s ∙ r_in.2)
                  ∙ here ∙ ap (λ (y : ℕ). get_or below y 0) (sym s) ∙ p.4)
              | inr ne ↦ inr (p.0, p.1, stays p.0 p.2 ne, p.3, p.4)
            ]
          ];
      top = λ k t lt s. elim (cases_eq k l) [
        | inl x ↦
            let q = h.under r t r_in.0 r_in.1 (sym here ∙ ap (λ (y : ℕ). get_or (set tops l (get_or below r 0)) y 0) (sym x) ∙ s) in
            (omega (arith, q.0, r_in.0), stays t q.1 (λ y. omega (arith, q.0)), q.2 ∙ r_in.2 ∙ sym x)
        | inr ne ↦
            let q = h.top k t lt (sym (there k ne) ∙ s) in
            (q.0, stays t q.1 (λ y. ne (sym q.2 ∙ ap h.lane y ∙ r_in.2)), q.2)
      ];
      under = λ j u lt c b.
          let o = was j c in
          let q = h.under j u lt o.0 b in
          (q.0, stays u q.1 (λ y. none_above j lt o.0 (b ∙ ap (λ (x : ℕ). x + 1) y)), q.2, q.3);
    }

  -- the next entry is not chosen
  pub lane_skip : C n ≡ false → Laned ahead es C (n + 1) tops below
  lane_skip out =
      let less : (i : ℕ) → i < n + 1 → C i ≡ true → i < n = λ i lt c. elim (cases_eq i n) [
        | inl s ↦ absurd (both_ways (C i) (ap C s ∙ out) c)
        | inr ne ↦ omega arith
      ] in
      record {
        lane = h.lane;
        own = λ i lt c. h.own i (less i lt c) c;
        on = λ i lt c. elim (h.on i (less i lt c) c) [
          | inl s ↦ inl s
          | inr p ↦ inr (p.0, omega (arith, p.1), p.2, p.3, p.4)
        ];
        top = λ k t lt s. let q = h.top k t lt s in (omega (arith, q.0), q.1, q.2);
        under = λ j u lt c b. h.under j u (less j lt c) c b;
      }

  module _ (l : ℕ) (long : length tops ≡ 256) (roomy : n < length below) (c : C n ≡ true) (pays : (entry_at es n).payer < 64) (own : LaneOf (entry_at es n).payer l)
      (after : comes_after ahead es (get_or tops l 0) (n + 1) ≡ true) where
    lane' : ℕ → ℕ
    lane' i = cond (eqb i n) l (h.lane i)

    new_lane : (i : ℕ) → i ≡ n → lane' i ≡ l
    unfolding lane'
    new_lane i e = cond-true (eqb i n) l (h.lane i) (eq-eqb i n e)

    old_lane : (i : ℕ) → i < n → lane' i ≡ h.lane i
    unfolding lane'
    old_lane i lt = cond-false (eqb i n) l (h.lane i) (ne_eqb i n (λ e. omega arith))

    tops' : List ℕ
    tops' = set tops l (n + 1)

    below' : List ℕ
    below' = set below n (get_or tops l 0)

    new_top : get_or tops' l 0 ≡ n + 1
    unfolding tops'
    new_top = get_or-set_same tops l (n + 1) 0 (omega (arith, own.1))

    old_top : (k : ℕ) → (k ≡ l → ⊥) → get_or tops' k 0 ≡ get_or tops k 0
    unfolding tops'
    old_top k ne = get_or-set_other tops l k (n + 1) 0 ne

    new_below : get_or below' n 0 ≡ get_or tops l 0
    unfolding below'
    new_below = get_or-set_same below n (get_or tops l 0) 0 roomy

    old_below : (i : ℕ) → i < n → get_or below' i 0 ≡ get_or below i 0
    unfolding below'
    old_below i lt = get_or-set_other below n i (get_or tops l 0) 0 (λ e. omega arith)

    -- where the entry at i has come to
    Rests : ℕ → Type 0
    Rests i = (get_or tops' (lane' i) 0 ≡ i + 1) ⊎ ((j : ℕ) × (j < n + 1) × (C j ≡ true) × (lane' j ≡ lane' i) × (get_or below' j 0 ≡ i + 1))

    rests : (i : ℕ) → i < n → C i ≡ true → Rests i
    unfolding Rests
    rests i lt ci =
        elim (h.on i lt ci) [
          | inl s ↦ elim (cases_eq (h.lane i) l) [
            | inl x ↦ inr (n, omega arith, c, new_lane n refl ∙ sym x ∙ sym (old_lane i lt), new_below ∙ ap (λ (y : ℕ). get_or tops y 0) (sym x) ∙ s)
            | inr ne ↦ inl (ap (λ (y : ℕ). get_or tops' y 0) (old_lane i lt) ∙ old_top (h.lane i) ne ∙ s)
          ]
          | inr p ↦ inr (p.0, omega (arith, p.1), p.2, old_lane p.0 p.1 ∙ p.3 ∙ sym (old_lane i lt), old_below p.0 p.1 ∙ p.4)
        ]

    -- one entry more on top of a lane
    pub lane_more : Laned ahead es C (n + 1) (set tops l (n + 1)) (set below n (get_or tops l 0))
    unfolding tops' below' Rests
    lane_more = record {
      lane = lane';
      own = λ i lt ci. elim (cases_eq i n) [
        | inl e ↦
            let p : (entry_at es i).payer ≡ (entry_at es n).payer = ap (λ (y : ℕ). (entry_at es y).payer) e in
            (omega (arith, p, own.0, new_lane i e), omega (arith, p, own.1, new_lane i e))
        | inr ne ↦
            let o = h.own i (omega arith) ci in
            let s = old_lane i (omega arith) in
            (omega (arith, o.0, s), omega (arith, o.1, s))
      ];
      on = λ i lt ci. elim (cases_eq i n) [
        | inl e ↦ inl (ap (λ (y : ℕ). get_or tops' y 0) (new_lane i e) ∙ new_top ∙ ap (λ (y : ℕ). y + 1) (sym e))
        | inr ne ↦ rests i (omega arith) ci
      ];
      top = λ k t lt s. elim (cases_eq k l) [
        | inl x ↦
            let e : t ≡ n = omega (arith, new_top, s, ap (λ (y : ℕ). get_or tops' y 0) x) in
            (omega arith, ap C e ∙ c, new_lane t e ∙ sym x)
        | inr ne ↦
            let q = h.top k t lt (sym (old_top k ne) ∙ s) in
            (omega (arith, q.0), q.1, old_lane t q.0 ∙ q.2)
      ];
      under = λ j u lt cj b. elim (cases_eq j n) [
        | inl e ↦
            let at : get_or tops l 0 ≡ u + 1 = sym new_below ∙ ap (λ (y : ℕ). get_or below' y 0) (sym e) ∙ b in
            let q = h.top l u (omega (arith, own.1)) at in
            let a = after_is ahead es (get_or tops l 0) (n + 1) after in
            let eu : get_or tops l 0 - 1 ≡ u = omega arith in
            let en : (n + 1) - 1 ≡ j = omega arith in (
              omega (arith, q.0),
              q.1,
              old_lane u q.0 ∙ q.2 ∙ sym (new_lane j e),
              elim a.1 [
                | inl z ↦ absurd (omega (arith, z, at))
                | inr x ↦ ap (λ (y : ℕ). ahead (key_at es y) (key_at es j)) (sym eu) ∙ ap (λ (y : ℕ). ahead (key_at es (get_or tops l 0 - 1)) (key_at es y)) (sym en) ∙ x
              ],
            )
        | inr ne ↦
            let lj : j < n = omega arith in
            let q = h.under j u lj cj (sym (old_below j lj) ∙ b) in
            (q.0, q.1, old_lane u (omega (arith, q.0)) ∙ q.2 ∙ sym (old_lane j lj), q.3)
      ];
    }

    pub more_laned : (tops⁺ below⁺ : List ℕ) → tops⁺ ≡ set tops l (n + 1) → below⁺ ≡ set below n (get_or tops l 0) → Laned ahead es C (n + 1) tops⁺ below⁺
    more_laned tops⁺ below⁺ t b = subst₂ (λ (x y : List ℕ). Laned ahead es C (n + 1) x y) (sym t) (sym b) lane_more

-- no entry in any lane
pub lane_none : (ahead : Order) (es : List Entry) (C : Choice) (tops below : List ℕ) → ((l : ℕ) → get_or tops l 0 ≡ 0) → Laned ahead es C 0 tops below
lane_none ahead es C tops below z = record {
  lane = λ i. 0;
  own = λ i lt c. absurd (omega arith);
  on = λ i lt c. absurd (omega arith);
  top = λ l t lt e. absurd (omega (arith, z l));
  under = λ j u lt c b. absurd (omega arith);
}

-- lanes that no member uses stay empty: one lane is used, a top is changed where there was one
pub narrow_more : (tops : List ℕ) (widest lane v : ℕ) → Narrow tops widest → Narrow (set tops lane v) (max widest (lane % 4 + 1))
narrow_more tops widest lane v narrow l h =
    let other : (l ≡ lane → ⊥) = λ e. let same : l % 4 ≡ lane % 4 = ap (λ (x : ℕ). x % 4) e in omega arith in
    get_or-set_other tops lane l v 0 other ∙ narrow l (omega arith)

pub narrow_less : (tops : List ℕ) (widest lane v : ℕ) → (get_or tops lane 0 ≡ 0 → ⊥) → Narrow tops widest → Narrow (set tops lane v) widest
narrow_less tops widest lane v some narrow l h =
    get_or-set_other tops lane l v 0 (λ e. some (ap (λ (x : ℕ). get_or tops x 0) (sym e) ∙ narrow l h)) ∙ narrow l h
