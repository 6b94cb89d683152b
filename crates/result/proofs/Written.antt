-- Records written one behind another, place by place.
use Rattle.std.proofs.Common.{◌≡◌, ℕ, ◌+◌, ◌*◌, ◌≤◌, List, [], ◌∷◌, ◌++◌, length, take, drop, sym, refl, ap, ◌∙◌, append-nil, arith, take-append-drop}
use Rattle.clearing.specs.declared.entry.Entry.{Entry}
use Rattle.pen.specs.Buffer.{written, Wrote}
use Rattle.pen.proofs.Lent.{wrote_as, wrote_more}
use Rattle.result.specs.Gathered.{gathered, each_of}
use Rattle.result.specs.Layout.{enc_member, enc_withdrawn}
use Rattle.result.specs.declared.member_line.MemberLine.{MemberLine}
use Rattle.result.proofs.Gathering.{each_length, each_more, gathered_none}

-- nothing written
pub wrote_nothing : (xs : List ℕ) (at : ℕ) → at ≤ length xs → Wrote xs at [] xs at
unfolding written
wrote_nothing xs at h =
    record { room = omega arith; bytes = sym (ap (λ k. take at xs ++ drop k xs) (omega arith) ∙ take-append-drop at xs); place = omega arith; size = refl }

module _ {A : Type 0} (f : A → List ℕ) (g : ℕ → List A) where
  pub starts : (xs : List ℕ) (at : ℕ) → at ≤ length xs → Wrote xs at (each_of f (gathered g 0)) xs at
  starts xs at h = wrote_as (ap (each_of f) (gathered_none g)) (wrote_nothing xs at h)

  -- one element more
  pub goes_on : (i : ℕ) (x : A) {xs ys zs : List ℕ} {at a b : ℕ} → g i ≡ x ∷ [] → Wrote xs at (each_of f (gathered g i)) ys a → Wrote ys a (f x) zs b → Wrote xs at (each_of f (gathered g (i + 1))) zs b
  goes_on i x e p q = wrote_as (each_more f g i ∙ ap (λ z. each_of f (gathered g i) ++ z) (ap (each_of f) e ∙ append-nil (f x))) (wrote_more p q)

pub member_bytes : (m : MemberLine) → length (enc_member m) ≡ 21
member_bytes m = refl

pub withdrawn_bytes : (e : Entry) → length (enc_withdrawn e) ≡ 18
withdrawn_bytes e = refl

pub members_long : (ms : List MemberLine) → length (each_of enc_member ms) ≡ length ms * 21
members_long ms = each_length enc_member 21 member_bytes ms

pub withdrawn_long : (es : List Entry) → length (each_of enc_withdrawn es) ≡ length es * 18
withdrawn_long es = each_length enc_withdrawn 18 withdrawn_bytes es
