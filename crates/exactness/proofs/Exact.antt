use Rattle.std.proofs.Common.{◌≡◌, ℕ, suc, ◌<◌, List, [], ◌∷◌, get_or, Ok, Err, Result, ap}
use Rattle.wire.specs.Bytes.{Octets}
use Rattle.memberfile.specs.Judge.{judge, summed}
use Rattle.exactness.specs.Acceptance.{Exactly}
use Rattle.terms.specs.declared.fault.Fault.{Fault}
use Rattle.memberfile.specs.declared.check.Summary.{Summary}
use Rattle.memberfile.proofs.Summaries.{summed_err, summed_ok}
use Rattle.exactness.proofs.Complete.{accepts}
use Rattle.exactness.proofs.Sound.{sound}

pub octets : (v : List ℕ) → ((i : ℕ) → get_or v i 0 < 256) → Octets v
octets [] h = tt
octets (b ∷ v) h = (h 0, octets v (λ i. h (suc i)))

pub exactly : (bs : List ℕ) (r : Result Summary Fault) → Octets bs → r ≡ summed (judge bs) → Exactly bs r
exactly bs (Ok m) o e = let j = summed_ok (judge bs) m e in let s = sound bs j.0 o j.1 in (j.0, s.0, s.1, j.2)
exactly bs (Err x) o e = λ f w same. let j = summed_err (judge bs) x e in let a = accepts f w in let b = ap judge same in cc
