-- A session that stands as its calls left it keeps the promise.
use Rattle.std.proofs.Common.{◌≡◌, ℕ, Bool, true, false, cond, not, ◌⊎◌, List, [], ◌∷◌, ◌++◌, length, Ok, Err, fold, Result, sym, refl, ap, ◌∙◌, subst, inl, inr, arith}
use mathlib.Core.Path.{fun_ext}
use Rattle.terms.specs.Dockets.{Day}
use Rattle.terms.specs.declared.fault.Fault.{Fault}
use Rattle.rules.specs.Meaning.{Meaning}
use Rattle.rules.specs.Order.{Order}
use Rattle.memberfile.specs.Layout.{FileValue}
use Rattle.clearing.specs.Choices.{Choice, Covered, Greatest, Lawful, Within, entry_at}
use Rattle.clearing.specs.declared.entry.Entry.{Entry}
use Rattle.clearing.proofs.Grown.{grows as grown}
use Rattle.clearing.proofs.Pairs.{cancel_on}
use Rattle.table.specs.Entries.{entries_of, kept_of}
use Rattle.session.specs.Files.{verdict}
use Rattle.session.specs.Ledger.{Ledger}
use Rattle.session.specs.Questions.{mark_of}
use Rattle.session.specs.Settled.{Settled}
use Rattle.session.specs.declared.session.Session.{Session}
use Rattle.session.specs.declared.session.mark.Mark.{Mark}
use Rattle.session.specs.declared.session.mark.Mark.TheVariants.{Unmarked, Kept, Withdrawn, Returned}
use Rattle.desk.specs.Books.{Book, Calm, Meant, RefusedFile, State, after, after_sent, IsCalm, clears, fresh, run, sends, settled}
use Rattle.desk.specs.Promises.{Best, Grows, Promise, Sound, is_kept, kept_in}
use Rattle.desk.specs.Stands.{Bears, Keeps, Stands}
use Rattle.desk.proofs.OnRoll.{AllOn, day_run, on_at, on_run}

-- a mark while cleared
abbrev marked : Bool → Bool → Mark
marked r k = cond r Returned (cond k Kept Withdrawn)

shown : (r k : Bool) → (k ≡ true → not r ≡ true) → is_kept (marked r k) ≡ k
shown true true h = let z : false ≡ true = h refl in absurd (let y : ◌≡◌ {A = ℕ} 0 1 = cc in omega arith)
shown true false h = refl
shown false true h = refl
shown false false h = refl

only : (r k : Bool) → marked r k ≡ Returned → r ≡ true
only true k e = refl
only false true e = absurd (let z : ◌≡◌ {A = ℕ} 0 1 = cc in omega arith)
only false false e = absurd (let z : ◌≡◌ {A = ℕ} 0 1 = cc in omega arith)

either : (k : Bool) → (marked false k ≡ Kept) ⊎ (marked false k ≡ Withdrawn)
either true = inl refl
either false = inr refl

left_out_lem : (d k : Bool) (x : Mark) → (d ≡ true → k ≡ true) → is_kept x ≡ k → x ≡ Withdrawn → d ≡ false
left_out_lem false k x h e w = refl
left_out_lem true k x h e w = let z : is_kept Withdrawn ≡ true = ap is_kept (sym w) ∙ e ∙ h refl in absurd (let y : ◌≡◌ {A = ℕ} 0 1 = cc in omega arith)

module _ {ahead : Order} {cover : ℕ → ℕ} (s : Session) (t : Settled ahead cover s) where
  abbrev own : List Entry
  own = entries_of s.table

  mark_is : (i : ℕ) → mark_of s i ≡ marked (entry_at own i).returned (kept_of s.table i)
  mark_is i = ap (λ (v : Bool). cond v (marked (entry_at own i).returned (kept_of s.table i)) Unmarked) t.cleared

  kept_at : (i : ℕ) → kept_in s i ≡ kept_of s.table i
  kept_at i = ap is_kept (mark_is i) ∙ shown (entry_at own i).returned (kept_of s.table i) (t.kept.lawful.alive i)

  pub kept_is : kept_in s ≡ kept_of s.table
  kept_is = fun_ext kept_at

  best_own : Best ahead cover own s
  best_own =
      record {
        lawful = subst (Lawful ahead own) (sym kept_is) t.kept.lawful;
        covered = subst (Covered cover own) (sym kept_is) t.kept.enough;
        rivals = λ D l c i w. left_out_lem (D i) (kept_of s.table i) (mark_of s i) (t.kept.contains D l c i) (kept_at i) w;
      }

  sound_own : (n : ℕ) → AllOn n own → Sound n cover own s
  sound_own n a =
      record {
        returned = λ i l d. mark_is i ∙ ap (λ (v : Bool). marked v (kept_of s.table i)) d;
        only_returned = λ i l d. only (entry_at own i).returned (kept_of s.table i) (sym (mark_is i) ∙ d);
        others = λ i l d. subst (λ (x : Mark). (x ≡ Kept) ⊎ (x ≡ Withdrawn)) (sym (mark_is i ∙ ap (λ (v : Bool). marked v (kept_of s.table i)) d)) (either (kept_of s.table i));
        zero_sum = cancel_on own (kept_of s.table) n (λ i l. (on_at n own i a l).0) (λ i l. (on_at n own i a l).1);
        stored = t.covers;
        paid_for = best_own.covered.covered;
      }

folded_append : (b : Book) (f g : List Meant) → fold after b (f ++ g) ≡ fold after (fold after b f) g
folded_append b [] g = refl
folded_append b (m ∷ f) g = folded_append (after b m) f g

calm_sent : (b : Book) (m : Meaning) (v : Result FileValue Fault) → RefusedFile v → (after_sent b m v).ledger.entries ≡ b.ledger.entries
calm_sent b m (Ok f) h = absurd h
calm_sent b m (Err x) h = refl

calm_one : (b : Book) (k : Meant) → IsCalm b k → (after b k).ledger.entries ≡ b.ledger.entries
calm_one b (sends m bytes room) h = calm_sent b m (verdict b.ledger m bytes room) h
calm_one b (clears a c) h = refl

calm_entries : (b : Book) (g : List Meant) → Calm b g → (fold after b g).ledger.entries ≡ b.ledger.entries
calm_entries b [] h = refl
calm_entries b (m ∷ g) h = calm_entries (after b m) g h.1 ∙ calm_one b m h.0

module _ (b : Book) (s : Session) (k : Keeps b s) where
  pub entries_are : entries_of s.table ≡ b.ledger.entries
  entries_are = ap (λ (l : Ledger). l.entries) k.ledger

  pub settled_by : (a : Order) (c : ℕ → ℕ) → b.state ≡ settled a c → Settled a c s
  settled_by a c e = subst (λ (x : State). Bears x s) e k.state

pub grows : (day : Day) (n : ℕ) (h : List Meant) → Grows day n h
grows day n h f g e is a a' c c' at at' IsCalm same more s t k k' =
    let u : Settled a c s = settled_by (run day n f) s k a c at in
    let v : Settled a' c' t = settled_by (run day n (f ++ g)) t k' a' c' at' in
    let one : entries_of t.table ≡ entries_of s.table = entries_are (run day n (f ++ g)) t k' ∙ ap (λ (b : Book). b.ledger.entries) (folded_append (fresh day n) f g) ∙ calm_entries (run day n f) g IsCalm ∙ sym (entries_are (run day n f) s k) in
    let w : Within (kept_of s.table) (kept_of t.table) = grown a a' c c' (entries_of s.table) (kept_of s.table) (kept_of t.table) same more u.kept (subst (λ (es : List Entry). Greatest a' c' es (kept_of t.table)) one v.kept) in
    λ i d. ap (λ (C : Choice). C i) (kept_is t v) ∙ w i (ap (λ (C : Choice). C i) (sym (kept_is s u)) ∙ d)

pub promised : (day : Day) (n : ℕ) (h : List Meant) (s : Session) → Stands day n h s → Promise day n h s
promised day n h s k =
    let b = run day n h in
    let es = entries_are b s k in
    record {
      sound = λ a c e.
          let on : AllOn (length day.roll) b.ledger.entries = subst (λ (d : Day). AllOn (length d.roll) b.ledger.entries) (day_run (fresh day n) h) (on_run (fresh day n) h tt) in
          subst (λ (x : List Entry). Sound (length day.roll) c x s) es (sound_own s (settled_by b s k a c e) (length day.roll) (subst (AllOn (length day.roll)) (sym es) on));
      best = λ a c e. subst (λ (x : List Entry). Best a c x s) es (best_own s (settled_by b s k a c e));
      idle = λ e i. ap (λ (v : Bool). cond v (marked (entry_at (entries_of s.table) i).returned (kept_of s.table i)) Unmarked) (subst (λ (x : State). Bears x s) e k.state);
      grows = grows day n h;
    }
