-- What the check accepts, in the words of files and their bytes.
use Rattle.std.specs.Prelude.{◌≡◌, ℕ, List, Ok, Err, Result, ◌≢◌}
use Rattle.terms.specs.declared.fault.Fault.{Fault}
use Rattle.wire.specs.Bytes.{Octets}
use Rattle.memberfile.specs.Judge.{judge, summary_of}
use Rattle.memberfile.specs.Layout.{FileValue, Formed, encode}
use Rattle.memberfile.specs.declared.check.Summary.{Summary}

-- the bytes of a well-formed file are accepted as that file: what is put into a file reads back
abbrev pub ReadsBack : Type 0
ReadsBack = (f : FileValue) → Formed f → judge (encode f) ≡ Ok f

-- and bytes accepted as a file are its bytes, and it is well-formed
abbrev pub OnlyFiles : Type 0
OnlyFiles = (bs : List ℕ) (f : FileValue) → Octets bs → judge bs ≡ Ok f → Formed f × (bs ≡ encode f)

-- two well-formed files with the same bytes are the same
abbrev pub OneFile : Type 0
OneFile = (f g : FileValue) → Formed f → Formed g → encode f ≡ encode g → f ≡ g

-- and no two byte lists say the same file
abbrev pub OneWriting : Type 0
OneWriting = (bs cs : List ℕ) (f : FileValue) → Octets bs → Octets cs → judge bs ≡ Ok f → judge cs ≡ Ok f → bs ≡ cs

-- an answer gives the summary of a well-formed file whose bytes these are, and is a refusal only where there is no such file
abbrev pub Exactly : List ℕ → Result Summary Fault → Type 0
Exactly bs (Ok m) = (f : FileValue) × Formed f × (bs ≡ encode f) × (m ≡ summary_of f)
Exactly bs (Err x) = (f : FileValue) → Formed f → bs ≢ encode f
