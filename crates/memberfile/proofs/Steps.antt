-- What a step that is taken says.
use Rattle.std.proofs.Common.{◌≡◌, ℕ, Bool, true, false, cond, ◌&&◌, eqb, leb, List, Some, None, Ok, Err, Option, Result, ok_or, refl}
use Rattle.wire.specs.Records.{piece}
use Rattle.wire.specs.Values.{raw_header_in, batch_head_in, presentation_in, return_in, closing_in}
use Rattle.terms.specs.Numbers.{batch_kind}
use Rattle.wire.specs.Rows.{is_of, same_totals}
use Rattle.memberfile.specs.Headers.{header_of}
use Rattle.memberfile.specs.Stages.{goes_to, begun, fresh, took, shut_batch, opened_by, stepped}
use Rattle.memberfile.specs.declared.header.Header.{Header}
use Rattle.wire.specs.declared.record.Tag.{Tag}
use Rattle.wire.specs.declared.record.Tag.TheVariants.{FileHeader, BatchHeader, Presentation as t_presentation, Return as t_return, BatchEnd, FileEnd}
use Rattle.terms.specs.declared.refusal.Refusal.{Refusal}
use Rattle.terms.specs.declared.refusal.Refusal.TheVariants.{HeaderValue}
use Rattle.wire.specs.declared.row.Row.TheVariants.{Presentation, Return}
use Rattle.memberfile.specs.declared.stage.Stage.{Stage}
use Rattle.memberfile.specs.declared.stage.Stage.TheVariants.{BeforeHeader, Between, InBatch, AfterEnd}
use Rattle.memberfile.specs.declared.stage.Moved.{Moved}

-- what a step that is taken says: the tests that it passed, and where it goes
abbrev pub Steps : Stage → Tag → List ℕ → Moved → Type 0
Steps BeforeHeader FileHeader v m = (h : Header) × (header_of (raw_header_in v) ≡ Some h) × (m ≡ goes_to (Between (begun h)))
Steps BeforeHeader BatchHeader v m = ⊥
Steps BeforeHeader t_presentation v m = ⊥
Steps BeforeHeader t_return v m = ⊥
Steps BeforeHeader BatchEnd v m = ⊥
Steps BeforeHeader FileEnd v m = ⊥
Steps (Between s) FileHeader v m = ⊥
Steps (Between s) BatchHeader v m = (eqb (batch_head_in v).kind (batch_kind s.header.kind) ≡ true) × (leb (batch_head_in v).number s.last ≡ false) × (m ≡ goes_to (InBatch s (fresh (batch_head_in v).number)))
Steps (Between s) t_presentation v m = ⊥
Steps (Between s) t_return v m = ⊥
Steps (Between s) BatchEnd v m = ⊥
Steps (Between s) FileEnd v m = ((eqb (closing_in v).number s.batches && same_totals (closing_in v).totals s.totals) ≡ true) × (m ≡ goes_to (AfterEnd s))
Steps (InBatch s b) FileHeader v m = ⊥
Steps (InBatch s b) BatchHeader v m = ⊥
Steps (InBatch s b) t_presentation v m = (is_of s.header.kind (Presentation (presentation_in v)) ≡ true) × (m ≡ took s b (Presentation (presentation_in v)))
Steps (InBatch s b) t_return v m = (is_of s.header.kind (Return (return_in v)) ≡ true) × (m ≡ took s b (Return (return_in v)))
Steps (InBatch s b) BatchEnd v m = (eqb (closing_in v).number b.number ≡ true) × (same_totals (closing_in v).totals b.totals ≡ true) × (m ≡ goes_to (Between (shut_batch s b)))
Steps (InBatch s b) FileEnd v m = ⊥
Steps (AfterEnd h) t v m = ⊥

yes_one : (b : Bool) (x m : Moved) (c : Refusal) → ◌≡◌ {A = Result Moved Refusal} (cond b (Ok x) (Err c)) (Ok m) → (b ≡ true) × (m ≡ x)
yes_one true x m c e = (refl, cc)
yes_one false x m c e = absurd (cc)

yes_two : (a b : Bool) (x m : Moved) (c d : Refusal) → ◌≡◌ {A = Result Moved Refusal} (cond a (cond b (Ok x) (Err c)) (Err d)) (Ok m) → (a ≡ true) × (b ≡ true) × (m ≡ x)
yes_two true true x m c d e = (refl, refl, cc)
yes_two true false x m c d e = absurd (cc)
yes_two false b x m c d e = absurd (cc)

yes_no : (a b : Bool) (x m : Moved) (c d : Refusal) → ◌≡◌ {A = Result Moved Refusal} (cond a (cond b (Err c) (Ok x)) (Err d)) (Ok m) → (a ≡ true) × (b ≡ false) × (m ≡ x)
yes_no true false x m c d e = (refl, refl, cc)
yes_no true true x m c d e = absurd (cc)
yes_no false b x m c d e = absurd (cc)

opened : (o : Option Header) (m : Moved) → opened_by o ≡ Ok m → (h : Header) × (o ≡ Some h) × (m ≡ goes_to (Between (begun h)))
opened (Some h) m e = (h, refl, cc)
opened None m e = absurd (cc)

-- a header that is refused opens no file
pub opened_err : (o : Option Header) (e : Refusal) → Err e ≡ ok_or o HeaderValue → opened_by o ≡ Err e
opened_err (Some h) e p = absurd (cc)
opened_err None e p = cc

pub steps : (s : Stage) (t : Tag) (v : List ℕ) (m : Moved) → stepped s (piece t v) ≡ Ok m → Steps s t v m
steps BeforeHeader FileHeader v m e = opened (header_of (raw_header_in v)) m e
steps BeforeHeader BatchHeader v m e = cc
steps BeforeHeader t_presentation v m e = cc
steps BeforeHeader t_return v m e = cc
steps BeforeHeader BatchEnd v m e = cc
steps BeforeHeader FileEnd v m e = cc
steps (Between s) FileHeader v m e = cc
steps (Between s) BatchHeader v m e = yes_no _ _ _ m _ _ e
steps (Between s) t_presentation v m e = cc
steps (Between s) t_return v m e = cc
steps (Between s) BatchEnd v m e = cc
steps (Between s) FileEnd v m e = yes_one _ _ m _ e
steps (InBatch s b) FileHeader v m e = cc
steps (InBatch s b) BatchHeader v m e = cc
steps (InBatch s b) t_presentation v m e = yes_one _ _ m _ e
steps (InBatch s b) t_return v m e = yes_one _ _ m _ e
steps (InBatch s b) BatchEnd v m e = yes_two _ _ _ m _ _ e
steps (InBatch s b) FileEnd v m e = cc
steps (AfterEnd h) t v m e = cc
