-- What a summary or a fault says of the verdict.
use Rattle.std.proofs.Common.{◌≡◌, Ok, Err, refl}
use Rattle.terms.specs.declared.fault.Fault.{Fault}
use Rattle.memberfile.specs.Judge.{Verdict, summary_of, summed}
use Rattle.memberfile.specs.Layout.{FileValue}
use Rattle.memberfile.specs.declared.check.Summary.{Summary}

pub summed_ok : (v : Verdict) (m : Summary) → Ok m ≡ summed v → (f : FileValue) × (v ≡ Ok f) × (m ≡ summary_of f)
summed_ok (Ok f) m e = (f, refl, cc)
summed_ok (Err x) m e = absurd (cc)

pub summed_err : (v : Verdict) (x : Fault) → Err x ≡ summed v → v ≡ Err x
summed_err (Ok f) x e = absurd (cc)
summed_err (Err y) x e = cc
