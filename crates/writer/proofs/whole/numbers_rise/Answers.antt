use Rattle.std.proofs.Common.{refl, ◌∙◌}
use Rattle.writer.proofs.Surveys.{rises_on, rises_not, rises_end}
use Rattle.writer.proofs.whole.numbers_rise.Goals as goal

pub loop-batch-init : goal.loop-batch-init
loop-batch-init c = refl

pub returns-then-batch-last : goal.returns-then-batch-last
returns-then-batch-last c = rises_not c.args.batches.now c.loop-batch.batch-index c.loop-batch.last _ c.loop-batch-test.true c.if-batch-last.true ∙ c.loop-batch.invariant

pub loop-batch-preserved : goal.loop-batch-preserved
loop-batch-preserved c = rises_on c.args.batches.now c.loop-batch.batch-index c.loop-batch.last _ c.loop-batch-test.true c.if-batch-last.false ∙ c.loop-batch.invariant

pub returns : goal.returns
returns c = rises_end c.args.batches.now c.loop-batch.batch-index c.loop-batch.last c.loop-batch-test.false ∙ c.loop-batch.invariant
