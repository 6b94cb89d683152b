-- The report is written over the one for its code, or behind all.
use Rattle.std.proofs.Common.{take, sym, refl, ap, ◌∙◌, arith, length-set}
use Rattle.std.proofs.lemmas.Bool.{ltb-true}
use Rattle.rules.specs.Reports.{are_apart}
use Rattle.rules.proofs.Reporting.{entered_apart, entered_limited, entered_reported, enters_at}
use Rattle.rules.proofs.book.Book.enter.Goals as goal

pub returns-then-not-is_place-clause-answer : goal.returns-then-not-is_place-clause-answer
returns-then-not-is_place-clause-answer c =
    let b = c.args.self.now in
    let w = rw (← c.unwrap_or-at.ensures) at (enters_at _ b.reports b.held c.args.report b.places b.few c.place_of.ensures) in
    rw (w.room, sym c.if-not-is_place.ensures) refl

pub invariant_of-self : goal.invariant_of-self
invariant_of-self c =
    let b = c.args.self.now in
    let r = c.args.report in
    let old = take b.held b.reports in
    let w = rw (← c.unwrap_or-at.ensures) at (enters_at _ b.reports b.held r b.places b.few c.place_of.ensures) in
    let l = ltb-true c.unwrap_or-at.result 64 (sym c.if-not-is_place.ensures) in
    let e = w.taken c.max-self.result l c.max-self.ensures in
    record {
      places = simp length-set b.places;
      few = omega (arith, c.max-self.ensures, b.few);
      apart = ap are_apart e ∙ entered_apart r old b.apart;
      limited = λ code. rw e (entered_limited r old 1000000000000000 c.requires b.limited code);
    }

pub returns : goal.returns
returns c =
    let b = c.args.self.now in
    let w = rw (← c.unwrap_or-at.ensures) at (enters_at _ b.reports b.held c.args.report b.places b.few c.place_of.ensures) in
    let yes = sym c.if-not-is_place.ensures in
    record {
      answer = rw (w.room, yes) refl;
      after = rw (w.taken c.max-self.result (ltb-true _ 64 yes) c.max-self.ensures) (entered_reported c.args.report (take b.held b.reports));
    }
