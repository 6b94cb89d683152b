use Rattle.std.proofs.Common.{◌≡◌, ◌+◌, false, leb, map, rules}
use Rattle.writer.specs.Drafts.{bound}
use Rattle.writer.specs.Whole.{batch_bytes, batch_of, file_of}
use Rattle.writer.proofs.Complete.{no_space, not_refused, wrong_kind}
use Rattle.writer.proofs.whole.check_whole.Goals as goal

pub returns-in_err-ok_or : goal.returns-in_err-ok_or
returns-in_err-ok_or c =
    let short : false ≡ leb (40 + batch_bytes (map batch_of c.args.batches.now)) (bound c.args.buffer_bytes) = search rules in
    let e = no_space (bound c.args.buffer_bytes) (file_of c.args.header c.args.batches.now) c.if-not-is_lawful.ensures c.if-not-numbers_rise.ensures short in
    search rules

pub returns-then-not-batches_are_of : goal.returns-then-not-batches_are_of
returns-then-not-batches_are_of c =
    wrong_kind (bound c.args.buffer_bytes) (file_of c.args.header c.args.batches.now) c.if-not-is_lawful.ensures c.if-not-numbers_rise.ensures (search rules) c.if-not-batches_are_of.ensures

pub returns : goal.returns
returns c =
    not_refused (bound c.args.buffer_bytes) (file_of c.args.header c.args.batches.now) c.if-not-is_lawful.ensures c.if-not-numbers_rise.ensures (search rules) c.if-not-batches_are_of.ensures
