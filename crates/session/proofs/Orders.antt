-- The order of refusals: none holds exactly when each is false.
use Rattle.std.proofs.Common.{◌≡◌, ℕ, Bool, true, false, cond, List, [], ◌∷◌, Some, None, Ok, Err, Option, Result, sym, refl, ap, ◌∙◌, arith}
use Rattle.std.specs.Result.{IsErrAnd, MatchResult}
use Rattle.std.proofs.lemmas.Result.{MatchResult-at_err, MatchResult-at_ok, err_from_is_err_and}
use Rattle.terms.specs.Codes.{session_fault}
use Rattle.terms.specs.declared.fault.Fault.{Fault}
use Rattle.terms.specs.declared.refusal.Refusal.{Refusal}
use Rattle.session.specs.Files.{admitted}
use Rattle.session.specs.Refusals.{Rule, first_holding, unless}

-- the words of none hold
abbrev pub NoneHolds : List Rule → Type 0
NoneHolds [] = Unit {0}
NoneHolds (r ∷ rs) = (r.holds ≡ false) × NoneHolds rs

pub none_hold : (rs : List Rule) → NoneHolds rs → first_holding rs ≡ None
none_hold [] h = refl
none_hold (r ∷ rs) h = ap (λ b. cond b (Some r.refusal) (first_holding rs)) h.0 ∙ none_hold rs h.1

pub unless_ok : {X : Type 0} (o : Option Refusal) (x y : X) → unless o x ≡ Ok y → x ≡ y
unless_ok None x y e = cc
unless_ok (Some c) x y e = let z : ◌≡◌ {A = ℕ} 0 1 = cc in absurd (omega arith)

passed_by : (b : Bool) (c : Refusal) (o : Option Refusal) → cond b (Some c) o ≡ None → (b ≡ false) × (o ≡ None)
passed_by true c o e = let z : ◌≡◌ {A = ℕ} 0 1 = cc in absurd (omega arith)
passed_by false c o e = (refl, e)

pub passed : (rs : List Rule) → first_holding rs ≡ None → NoneHolds rs
passed [] e = tt
passed (r ∷ rs) e = let p = passed_by r.holds r.refusal (first_holding rs) e in (p.0, passed rs p.1)

-- the fault of a whole file, made of its refusal
pub admitted_from : {X : Type 0} (o : Option Refusal) (x : X) (u : Result X Refusal) (r : Result X Fault) → u ≡ unless o x → MatchResult u (λ y. r ≡ Ok y) (λ c. IsErrAnd r (λ f. f ≡ session_fault c)) → r ≡ admitted o x
admitted_from None x u r e m = MatchResult-at_ok _ _ x e m
admitted_from (Some c) x u r e m = let p = err_from_is_err_and r (MatchResult-at_err _ _ c e m) in p.1 ∙ ap Err p.2

pub admitted_inv : {X : Type 0} (o : Option Refusal) (x y : X) → Ok y ≡ admitted o x → (o ≡ None) × (y ≡ x)
admitted_inv None x y e = (refl, cc)
admitted_inv (Some c) x y e = let z : ◌≡◌ {A = ℕ} 0 1 = cc in absurd (omega arith)

pub refused_inv : {X Y : Type 0} (o : Option Refusal) (x : X) (y : Y) (f : Fault) → Err f ≡ admitted o x → admitted o y ≡ Err f
refused_inv None x y f e = let z : ◌≡◌ {A = ℕ} 0 1 = cc in absurd (omega arith)
refused_inv (Some c) x y f e = let s : f ≡ session_fault c = cc in ap Err (sym s)
