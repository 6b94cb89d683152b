use Rattle.std.proofs.Common.{◌≡◌, None, length, subst, rules}
use Rattle.writer.specs.Drafts.{FileDraft, bound}
use Rattle.writer.specs.Stands.{Done}
use Rattle.writer.specs.Whole.{file_of, whole_check}
use Rattle.writer.proofs.Complete.{whole_written}
use Rattle.writer.proofs.whole.write_file.Goals as goal

pub returns-clause-written : goal.returns-clause-written
returns-clause-written c =
    let old = c.args.out.now in
    let f = file_of c.args.header c.args.batches.now in
    let free : whole_check (bound (length old)) f ≡ None = search rules in
    let w = c.write_batches-finished in
    let whole = subst (λ (d : FileDraft). Done d old w.result.bytes.now w.result.len) (whole_written (bound (length old)) f free) w.ensures.done in
    search rules
