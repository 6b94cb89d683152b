use Rattle.std.proofs.Common.{length, sym, ap, ◌∙◌, rules}
use Rattle.memberfile.proofs.Walks.{walk_on, rows_off}
use Rattle.memberfile.proofs.rows.RowsIterator.next.Goals as goal

pub returns-in-Some : goal.returns-in-Some
returns-in-Some c =
    let e = c.loop-met.invariant ∙ walk_on _ _ _ _ c.in-Ok.ensures.value c.encoded_len.ensures c.in-Some.ensures in
    let l = ap length e in
    record { steps = e; goes = search rules }

pub loop-met-preserved : goal.loop-met-preserved
loop-met-preserved c = c.loop-met.invariant ∙ walk_on _ _ _ _ c.in-Ok.ensures.value c.encoded_len.ensures c.in_default-row_of.ensures

pub returns-clause-steps : goal.returns-clause-steps
returns-clause-steps c = c.loop-met.invariant ∙ rows_off _ _ (sym c.in_default.ensures.value)
