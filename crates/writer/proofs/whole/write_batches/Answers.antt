use Rattle.std.proofs.Common.{map, length, sym, ap, ◌∙◌, subst, take_all}
use Rattle.writer.specs.Drafts.{FileDraft, bound, opened}
use Rattle.writer.specs.Open.{FileStands}
use Rattle.writer.specs.Stands.{Done}
use Rattle.writer.specs.Whole.{all_written, batch_of}
use Rattle.writer.proofs.Complete.{write_more}
use Rattle.writer.proofs.whole.write_batches.Goals as goal

pub loop-batch-preserved : goal.loop-batch-preserved
loop-batch-preserved c =
    record {
      name = c.write_batch-file.ensures.name ∙ c.loop-batch.invariant.name;
      stands = λ d old s.
          let e = write_more (bound (length old)) d c.args.batches.now c.loop-batch.batch-index _ c.loop-batch-test.true in
          subst (λ (v : FileDraft). FileStands v old c.write_batch-file.result) (sym e) (c.write_batch-file.ensures.stands _ old (c.loop-batch.invariant.stands d old s));
    }

pub returns-clause-done : goal.returns-clause-done
returns-clause-done c =
    let old = c.args.out.now in
    let room = bound (length old) in
    let begun = opened room c.args.header in
    let e = ap (λ l. all_written room begun (map batch_of l)) (take_all c.loop-batch.batch-index c.args.batches.now c.loop-batch-test.false) in
    let done = c.finish.ensures.done _ old (c.loop-batch.invariant.stands begun old c.open-file.ensures.stands) in
    subst (λ (v : FileDraft). Done v old c.finish.result.bytes.now c.finish.result.len) e done
