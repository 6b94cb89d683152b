use Rattle.std.proofs.Common.{◌≡◌, ℕ, ◌≤◌, true, leb, length, None, subst, lit≤, le-leb}
use native.Mathlib.Nat.{le-min}
use Rattle.exactness.specs.Example.{example_file}
use Rattle.writer.specs.Drafts.{FileDraft, bound, drafted, opened, started}
use Rattle.writer.specs.Example.{example_draft}
use Rattle.writer.specs.Stands.{Done}
use Rattle.writer.specs.Whole.{whole_check}
use Rattle.writer.proofs.Complete.{whole_written}
use Rattle.writer.proofs.example.put_example.Goals as goal

whole : (room : ℕ) → 89 ≤ room → example_draft room ≡ drafted example_file
whole room h =
    let fits : leb 89 room ≡ true = le-leb 89 room h in
    let free : whole_check room example_file ≡ None = rw fits in
    whole_written room example_file free

pub returns : goal.returns
returns c =
    let old = c.args.out.now in
    let room = bound (length old) in
    let file = opened room example_file.header in
    let batch = c.open_batch-batch.ensures.stands file old c.open.ensures.stands in
    let filled = c.put.ensures.stands (started room file 1) old batch in
    let done = c.finish.ensures.done _ old (c.close.ensures.stands _ old filled) in
    record {
      done = done;
      whole = λ h. subst (λ (d : FileDraft). Done d old c.finish.result.bytes.now c.finish.result.len) (whole room (le-min h (lit≤ tt))) done;
    }
