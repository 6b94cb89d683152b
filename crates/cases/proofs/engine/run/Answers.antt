use Rattle.cases.proofs.Outcomes.{entries_are, kept_are, positions_are}
use Rattle.cases.proofs.engine.run.Goals as goal

pub returns : goal.returns
returns c =
    let k = c.args.case in
    let rule = c.rule_of-rule.result in
    let held = c.held_of-held.result in
    let ps = c.places_of-places.result in
    let qs = c.clear_by.new.places in
    let n = c.clear_by.result.withdrawn in
    let by = c.rule_of-rule.ensures in
    let all = c.held_of-held.ensures in
    let filed = c.places_of-places.ensures in
    let cleared = c.clear_by.ensures.cleared in
    record {
      held = all;
      entries = entries_are k rule held ps qs n by all filed cleared;
      kept = kept_are k rule held ps qs n by all filed cleared;
      positions = positions_are k rule held ps qs n by all filed cleared c.positions_of-positions.result c.positions_of-positions.ensures;
    }
