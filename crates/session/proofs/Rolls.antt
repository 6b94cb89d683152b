-- Places on the roll of a docket, and the numbers kept by them.
use Rattle.std.proofs.Common.{◌≡◌, ℕ, ◌<◌, ◌≤◌, eqb, List, length, get_or, set, Some, refl, arith, length-take}
use Rattle.std.proofs.lemmas.List.{map-set}
use Rattle.std.proofs.Math.Seq.{map-set_same}
use Rattle.terms.specs.Dockets.{roll_of}
use Rattle.terms.specs.Rolls.{place_in}
use Rattle.terms.specs.declared.docket.Docket.{Docket}
use Rattle.terms.specs.declared.file_kind.FileKind.{FileKind}
use Rattle.terms.specs.declared.file_kind.FileKind.TheVariants.{Presentations, Returns}
use Rattle.terms.proofs.Places.{place_found}
use Rattle.session.specs.Files.{entered_number}
use Rattle.session.specs.Ledger.{ledger_of, number_of, numbered, numbers_in, numbers_of}
use Rattle.session.specs.declared.session.FileNumbers.{FileNumbers}
use Rattle.session.specs.declared.session.Session.{Session}

pub roll_few : (d : Docket) → length (roll_of d) ≤ 64
roll_few d = omega (arith, length-take d.members d.codes, d.most)

-- a member's place is below 64
pub place_low : (d : Docket) (code i : ℕ) → place_in (roll_of d) code ≡ Some i → i < 64
place_low d code i e = omega (arith, (place_found (λ c. eqb c code) (roll_of d) i e 0).0, roll_few d)

-- the numbers of a kind are those of the ledger
pub numbers_same : (k : FileKind) (s : Session) → numbers_in k s.numbers ≡ numbers_of k (ledger_of s)
numbers_same Presentations s = refl
numbers_same Returns s = refl

-- a member's number of one kind is entered among the numbers of both
pub number_entered : (k kind : FileKind) (place number : ℕ) (ns : List FileNumbers) (d : FileNumbers) → numbers_in k (set ns place (numbered kind number (get_or ns place d))) ≡ entered_number k kind place number (numbers_in k ns)
number_entered Presentations Presentations place number ns d = map-set (number_of Presentations) ns place (numbered Presentations number (get_or ns place d))
number_entered Presentations Returns place number ns d = map-set_same (number_of Presentations) ns place (numbered Returns number (get_or ns place d)) d refl
number_entered Returns Presentations place number ns d = map-set_same (number_of Returns) ns place (numbered Presentations number (get_or ns place d)) d refl
number_entered Returns Returns place number ns d = map-set (number_of Returns) ns place (numbered Returns number (get_or ns place d))
