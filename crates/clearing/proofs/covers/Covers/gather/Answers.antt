use Rattle.std.proofs.Common.{◌≡◌, rules}
use Rattle.clearing.specs.Table.{cover_on_roll}
use Rattle.clearing.proofs.Gathered.{gathered, gathered_low}
use Rattle.clearing.proofs.Made.{made_at}
use Rattle.clearing.proofs.covers.Covers.gather.Goals as goal

pub invariant_of-result : goal.invariant_of-result
invariant_of-result g c =
    let source = g.C.CoverSource.covers c.args.source.now in
    let roll = c.args.roll.now in
    record {
      low = gathered_low source roll c.from_fn.result c.from_fn.ensures.items.long
          (made_at _ _ (λ k y. y ≡ cover_on_roll source roll k) (λ k y q h. (search rules, search rules)) _ 0 c.from_fn.ensures.items)
          1_000_000_000_000_000 (g.met.C.CoverSource.limited c.args.source.now);
    }

pub returns : goal.returns
returns g c =
    let source = g.C.CoverSource.covers c.args.source.now in
    let roll = c.args.roll.now in
    gathered source roll c.from_fn.result c.from_fn.ensures.items.long
    (made_at _ _ (λ k y. y ≡ cover_on_roll source roll k) (λ k y q h. (search rules, search rules)) _ 0 c.from_fn.ensures.items)
