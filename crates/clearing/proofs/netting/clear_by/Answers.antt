use Rattle.std.proofs.Common.{ℕ, ◌+◌, ◌<◌, ◌≤◌, List, sym, subst}
use Rattle.clearing.specs.Choices.{paid, received}
use Rattle.clearing.specs.Table.{cover_on_roll, entries, front, kept}
use Rattle.clearing.specs.declared.entry.Entry.{Entry}
use Rattle.clearing.proofs.Grown.{cleared_cover, nowhere_else, covered}
use Rattle.clearing.proofs.Pairs.{cancel}
use Rattle.clearing.proofs.netting.clear_by.Goals as goal

pub returns : goal.returns
returns g c =
    let ahead = g.R.Ranking.ahead c.args.rule.now in
    let cover = cover_on_roll (g.C.CoverSource.covers c.args.source.now) c.args.roll.now in
    let ps = front c.args.held c.args.places.now in
    let qs = front c.args.held c.clear-withdrawn.new.places in
    let k = cleared_cover {old = ps} {new = qs} c.gather-covers.ensures c.clear-withdrawn.ensures.cleared in
    record {
      cleared = k;
      covers = c.gather-covers.ensures;
      behind = c.clear-withdrawn.ensures.behind;
      nowhere_else = nowhere_else ahead cover (entries ps) (kept qs) k.greatest;
      paid_for = subst (λ (es : List Entry). (m : ℕ) → m < 64 → paid es (kept qs) m ≤ cover m + received es (kept qs) m) (sym k.same) (covered ahead cover (entries ps) (kept qs) k.greatest);
      cancel = cancel qs (kept qs);
    }
