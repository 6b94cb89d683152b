use Rattle.std.proofs.Common.{ap, sym, ◌∙◌}
use Rattle.session.specs.Ledger.{ledger_of, with_entries}
use Rattle.session.specs.Rows.{after_row, outcome_of, row_taken}
use Rattle.session.proofs.Going.{counts_out, takes, turns}
use Rattle.session.proofs.session.Session.take_rows.Goals as goal

pub loop-at-preserved-in-Ok : goal.loop-at-preserved-in-Ok
loop-at-preserved-in-Ok g c =
    let es = (ledger_of c.loop-at.self).entries in
    let m = g.I.Instrument.meaning c.args.instrument.now in
    let was = c.loop-at.invariant in
    let day = ap (λ x. x.day) was.1 in
    let step = c.in-Some.ensures.steps in
    let left = ap (λ x. x.entries) c.take_row.ensures.ledger in (
      takes _ m c.args.sender _ _ _ _ _ _ was.0 step.0 step.1 step.2 (c.in-Ok.ensures.outcome ∙ ap (λ d. outcome_of (row_taken d m c.args.sender es c.in-Some.row)) day) (left ∙ ap (λ d. after_row d m c.args.sender es c.in-Some.row) day),
      c.take_row.ensures.ledger ∙ (λ i. with_entries (was.1 i) (sym left i)),
    )

pub loop-at-preserved : goal.loop-at-preserved
loop-at-preserved g c =
    let es = (ledger_of c.loop-at.self).entries in
    let m = g.I.Instrument.meaning c.args.instrument.now in
    let was = c.loop-at.invariant in
    let day = ap (λ x. x.day) was.1 in
    let step = c.in-Some.ensures.steps in
    let left = ap (λ x. x.entries) c.take_row.ensures.ledger in (
      turns _ m c.args.sender _ _ _ _ _ _ _ _ was.0 step.0 step.1 step.2 c.from.ensures (c.in-Err.ensures.outcome ∙ ap (λ d. outcome_of (row_taken d m c.args.sender es c.in-Some.row)) day) (left ∙ ap (λ d. after_row d m c.args.sender es c.in-Some.row) day),
      c.take_row.ensures.ledger ∙ (λ i. with_entries (was.1 i) (sym left i)),
    )

pub returns-clause-counts : goal.returns-clause-counts
returns-clause-counts g c = counts_out _ (g.I.Instrument.meaning c.args.instrument.now) c.args.sender c.loop-at.invariant.0 c.in-None.ensures.steps.0
