use Rattle.std.proofs.Common.{◌≡◌, get_or, sym, ap, ◌∙◌, arith}
use Rattle.clearing.specs.Choices.{entry_at}
use Rattle.clearing.specs.Table.{entries}
use Rattle.clearing.specs.declared.entry.Entry.{Entry}
use Rattle.clearing.proofs.Heaped.{top_le}
use Rattle.clearing.proofs.Marks.{entry_is}
use Rattle.clearing.proofs.lanes.Lanes.lane_for.Goals as goal

pub comes_after-requires : goal.comes_after-requires
comes_after-requires g c =
    let x = get_or c.args.ranked.now.places.now c.args.at c.index-ranked-at.result in
    let le = top_le (g.met.R.Ranking.strict c.args.ranked.now.rule.now) c.requires.laned c.loop-lane.lane (omega (arith, x.pays, c.from-first.ensures, c.loop-lane-test.true)) in
    (omega (arith, le, c.requires.within), omega (arith, c.requires.within))

pub returns-then-comes_after : goal.returns-then-comes_after
returns-then-comes_after g c =
    let ps = c.args.ranked.now.places.now in
    let payer : (entry_at (entries ps) c.args.at).payer ≡ (get_or ps c.args.at c.index-ranked-at.result).entry.payer = ap (λ (e : Entry). e.payer) (entry_is ps c.args.at c.index-ranked-at.result c.requires.within) in (
      (omega (arith, payer, c.from-first.ensures, c.loop-lane.auto.lane), omega (arith, payer, c.from-first.ensures, c.loop-lane-test.true)),
      sym c.comes_after.ensures ∙ c.if-comes_after.true,
    )
