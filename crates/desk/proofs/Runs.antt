-- Runs of calls.
use Rattle.std.proofs.Common.{◌≡◌, ℕ, List, [], ◌∷◌, ◌++◌, fold, sym, refl, ◌∙◌, subst}
use Rattle.std.proofs.lemmas.List.Sums.{fold_push}
use Rattle.terms.specs.Dockets.{Day}
use Rattle.session.specs.Ledger.{ledger_of}
use Rattle.session.specs.declared.session.Session.{Session}
use Rattle.desk.specs.Books.{Book, Meant, Says, Told, after, fresh, run}
use Rattle.desk.specs.Calls.{left_by, left_in}
use Rattle.desk.specs.Promises.{Promise}
use Rattle.desk.specs.Runs.{Leaves, Makes}
use Rattle.desk.specs.Stands.{Does, Keeps, Stands, Unmoved}
use Rattle.desk.specs.declared.calls.Answer.{Answer}
use Rattle.desk.proofs.Promised.{promised}

pub told_push : (b : Book) (ms : List Meant) (rs : List Answer) (m : Meant) (a : Answer) → Told b ms rs → Says (fold after b ms) m a → Told b (ms ++ (m ∷ [])) (rs ++ (a ∷ []))
told_push b [] [] m a t s = (s, tt)
told_push b [] (x ∷ rs) m a t s = absurd t
told_push b (y ∷ ms) [] m a t s = absurd t
told_push b (y ∷ ms) (x ∷ rs) m a t s = (t.0, told_push (after b y) ms rs m a t.1 s)

pub left_push : (b : Book) (ms : List Meant) (m : Meant) (out : List ℕ) → left_by b (ms ++ (m ∷ [])) out ≡ left_in (fold after b ms).ledger m (left_by b ms out)
left_push b [] m out = refl
left_push b (y ∷ ms) m out = left_push (after b y) ms m (left_in b.ledger y out)

-- one call more
pub stands_push : (day : Day) (n : ℕ) (h : List Meant) (m : Meant) (s : Session) → Keeps (after (run day n h) m) s → Stands day n (h ++ (m ∷ [])) s
stands_push day n h m s k = subst (λ (b : Book). Keeps b s) (sym (fold_push after (fresh day n) h m)) k

-- and what it promises
pub done : {m : Meant} {s t : Session} {a : Answer} → Does m s t a → (day : Day) (n : ℕ) (h : List Meant) → Stands day n h s → Promise day n (h ++ (m ∷ [])) t
done {m = m} {t = t} d day n h k = promised day n (h ++ (m ∷ [])) t (stands_push day n h m t (d.keeps (run day n h) k))

-- what one call does, leaves in the buffer and does not move is all that it promises
pub makes : {m : Meant} {s t : Session} {out left : List ℕ} {a : Answer} → Does m s t a → left ≡ left_in (ledger_of s) m out → Unmoved a s t → Makes m s t out left a
makes {m = m} {t = t} d e u = record { does = d; buffer = e; unmoved = u; stands = λ day n h k. stands_push day n h m t (d.keeps (run day n h) k); promise = done d }

-- no call leaves the session as it was opened
pub leaves_none : (day : Day) (n : ℕ) (s : Session) (out : List ℕ) → Stands day n [] s → Leaves day n [] s [] out out
leaves_none day n s out k = record { stands = k; told = tt; buffer = refl; promise = promised day n [] s k }

-- one call more, upon a session and a buffer that calls left
pub leaves_more : {day : Day} {n : ℕ} {h : List Meant} {m : Meant} {s t : Session} {rs : List Answer} {a : Answer} {out mid left : List ℕ} → Leaves day n h s rs out mid → Makes m s t mid left a → Leaves day n (h ++ (m ∷ [])) t (rs ++ (a ∷ [])) out left
leaves_more {day = day} {n = n} {h = h} {m = m} {rs = rs} {a = a} {out = out} was now =
    record {
      stands = now.stands day n h was.stands;
      told = told_push (fresh day n) h rs m a was.told (now.does.says (run day n h) was.stands);
      buffer = now.buffer ∙ (λ j. left_in (was.stands.ledger j) m (was.buffer j)) ∙ sym (left_push (fresh day n) h m out);
      promise = now.promise day n h was.stands;
    }
