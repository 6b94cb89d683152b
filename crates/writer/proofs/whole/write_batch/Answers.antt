use Rattle.std.proofs.Common.{length, sym, ap, ◌∙◌, subst, take_all}
use Rattle.writer.specs.Drafts.{BatchDraft, bound, started}
use Rattle.writer.specs.Open.{BatchStands}
use Rattle.writer.specs.Whole.{all_put}
use Rattle.writer.proofs.Complete.{put_more}
use Rattle.writer.proofs.whole.write_batch.Goals as goal

pub loop-row-preserved : goal.loop-row-preserved
loop-row-preserved c =
    record {
      name = c.put.ensures.name ∙ c.loop-row.invariant.name;
      stands = λ d old s.
          let e = put_more (bound (length old)) d c.args.batch.now.rows.now c.loop-row.row-index _ c.loop-row-test.true in
          subst (λ (v : BatchDraft). BatchStands v old c.put.new.self) (sym e) (c.put.ensures.stands _ old (c.loop-row.invariant.stands d old s));
    }

pub returns-clause-stands : goal.returns-clause-stands
returns-clause-stands c d old s =
    let batch = c.args.batch.now in
    let room = bound (length old) in
    let opened = started room d batch.number in
    let e = ap (all_put room opened) (take_all c.loop-row.row-index batch.rows.now c.loop-row-test.false) in
    let filled = c.loop-row.invariant.stands opened old (c.open_batch-open.ensures.stands d old s) in
    c.close.ensures.stands _ old (subst (λ (v : BatchDraft). BatchStands v old c.loop-row.open) e filled)
