-- What one call, and a list of calls upon a newly opened session, leave and promise.
use Rattle.std.specs.Prelude.{◌≡◌, ℕ, List, [], ◌∷◌, ◌++◌}
use Rattle.terms.specs.Dockets.{Day}
use Rattle.session.specs.Ledger.{ledger_of}
use Rattle.session.specs.declared.session.Session.{Session}
use Rattle.desk.specs.Books.{Meant, Told, fresh}
use Rattle.desk.specs.Calls.{left_by, left_in}
use Rattle.desk.specs.Promises.{Promise}
use Rattle.desk.specs.Stands.{Does, Stands, Unmoved}
use Rattle.desk.specs.declared.calls.Answer.{Answer}

-- the call m takes the session from s to t and the outcome buffer from out to left, and is answered a: whatever calls were made upon the
-- session before, the promise stands behind this one too
pub record Makes (m : Meant) (s t : Session) (out left : List ℕ) (a : Answer) : Type 0 where
  pub does : Does m s t a
  pub buffer : left ≡ left_in (ledger_of s) m out
  pub unmoved : Unmoved a s t
  pub stands : (day : Day) (n : ℕ) (h : List Meant) → Stands day n h s → Stands day n (h ++ (m ∷ [])) t
  pub promise : (day : Day) (n : ℕ) (h : List Meant) → Stands day n h s → Promise day n (h ++ (m ∷ [])) t

-- the calls ms upon a session newly opened leave s, answer rs, and take the outcome buffer from out to left
pub record Leaves (day : Day) (n : ℕ) (ms : List Meant) (s : Session) (rs : List Answer) (out left : List ℕ) : Type 0 where
  pub stands : Stands day n ms s
  pub told : Told (fresh day n) ms rs
  pub buffer : left ≡ left_by (fresh day n) ms out
  pub promise : Promise day n ms s
