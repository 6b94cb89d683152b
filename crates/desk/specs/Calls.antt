-- What a call means, with an outcome buffer of n bytes.
use Rattle.std.specs.Prelude.{ℕ, min, List, [], ◌∷◌, ◌++◌, take, drop}
use Rattle.rules.specs.Meaning.{Meaning}
use Rattle.rules.specs.Order.{Order}
use Rattle.session.specs.Files.{verdict, written}
use Rattle.session.specs.Ledger.{Ledger}
use Rattle.desk.specs.Books.{Book, Meant, after, clears, sends}
use Rattle.desk.specs.declared.calls.Call.{Call}
use Rattle.desk.specs.declared.calls.Call.TheVariants.{Intake, Clear}

abbrev pub meaning : {I R C : Type 0} → (I → Meaning) → (R → Order) → (C → ℕ → ℕ) → ℕ → Call I R C → Meant
meaning instrument rule source n (Intake i file room) = sends (instrument i.now) file.now (min room n)
meaning instrument rule source n (Clear r c) = clears (rule r.now) (source c.now)

-- the outcome buffer behind a call: an accepted file writes at its front, within its room, and nothing else writes
abbrev pub left_in : Ledger → Meant → List ℕ → List ℕ
left_in l (sends m bytes room) out = written l m (verdict l m bytes room) (take room out) ++ drop room out
left_in l (clears ahead cover) out = out

-- the outcome buffer behind a list of calls
abbrev pub left_by : Book → List Meant → List ℕ → List ℕ
left_by b [] out = out
left_by b (m ∷ ms) out = left_by (after b m) ms (left_in b.ledger m out)
