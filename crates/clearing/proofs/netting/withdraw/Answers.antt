use Rattle.std.proofs.Common.{refl}
use Rattle.clearing.proofs.Marks.{entries_set, marks_set}
use Rattle.clearing.proofs.netting.withdraw.Goals as goal

pub returns-clause-entries : goal.returns-clause-entries
returns-clause-entries c = entries_set c.args.places.now c.args.at c.index-places-at-2.result _ c.requires.within refl

pub returns-clause-marks : goal.returns-clause-marks
returns-clause-marks c = marks_set c.args.places.now c.args.at _
