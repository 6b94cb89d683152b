use Rattle.std.proofs.Common.{sym, ◌∙◌, rules}
use borrow.Author.Tests.{tests}
use Rattle.std.proofs.lemmas.Iterator.{YieldsList-from_slice}
use Rattle.std.proofs.lemmas.Iterator.Search.{all_from_yields_List}
use Rattle.std.proofs.lemmas.List.Folds.{list_all-map}
use Rattle.memberfile.specs.Layout.{BatchValue}
use Rattle.writer.specs.Whole.{all_of, batch_of}
use Rattle.writer.specs.declared.batch_rows.BatchRows.{BatchRows}
use Rattle.writer.proofs.whole.batches_are_of.Goals as goal

pub returns : goal.returns
returns c =
    all_from_yields_List (λ (b : BatchRows). all_of c.args.kind b.rows.now) _ _ _ c.all.ensures.ran (YieldsList-from_slice c.args.batches.now cc) (λ x b q k. search (rules, tests))
    ∙ sym (list_all-map (λ (b : BatchValue). all_of c.args.kind b.rows) batch_of c.args.batches.now)
