use Rattle.std.proofs.Common.{◌≡◌, ℕ, ◌-◌, min, List, ◌++◌, length, take, drop, ap, ◌∙◌, arith}
use Rattle.std.proofs.lemmas.List.{length-take-le}
use Rattle.session.specs.Files.{verdict, written}
use Rattle.session.specs.Ledger.{ledger_of}
use Rattle.desk.specs.declared.calls.Answer.TheVariants.{Intake}
use Rattle.desk.proofs.Runs.{makes}
use Rattle.desk.proofs.Steps.{taken_does, unmoved}
use Rattle.desk.proofs.desk.take_in.Goals as goal

part_long : (k room : ℕ) (out : List ℕ) → k ≡ min room (length out) → length (take (k - 0) out) ≡ min room (length out)
part_long k room out e = length-take-le (k - 0) out (omega arith) ∙ omega arith

part_is : (k room : ℕ) (out : List ℕ) → k ≡ min room (length out) → k - 0 ≡ min room (length out)
part_is k room out e = omega arith

pub returns : goal.returns
returns g c =
    let l = ledger_of c.args.s.now in
    let m = g.I.Instrument.meaning c.args.instrument.now in
    let bs = c.args.file.now in
    let out = c.args.out.now in
    let long = part_long c.min-n.result c.args.room out c.min-n.ensures in
    let num = part_is c.min-n.result c.args.room out c.min-n.ensures in
    let did = c.intake.ensures in
    makes (taken_does m bs _ _ c.args.s.now c.intake.new.self _ long (ap Intake did.answer) did.ledger did.stood) ((λ i. did.out i ++ drop (c.min-n.result - 0) out) ∙ (λ i. written l m (verdict l m bs (long i)) (take (num i) out) ++ drop (num i) out)) (unmoved m bs _ c.args.s.now c.intake.new.self _ (ap Intake did.answer) did.stood)
