use Rattle.std.proofs.Common.{◌≡◌, min, List, length, sym, subst₂, arith}
use Rattle.std.proofs.lemmas.List.{length-take-le}
use Rattle.clearing.specs.Table.{Cleared, cover_of}
use Rattle.clearing.specs.declared.place.Place.{Place}
use Rattle.clearing.proofs.Front.{take_within, front_is, behind_is}
use Rattle.clearing.proofs.netting.clear.Goals as goal

pub returns : goal.returns
returns g c =
    let ps = c.args.places.now in
    let k = min c.args.held 4096 in
    let n = c.front_len-n.result in
    let qs = c.clear_all.new.places in
    let long : length qs ≡ n = omega (arith, length-take-le n ps (omega (arith, c.front_len-n.ensures))) in
    record {
      cleared = subst₂ (λ (old new : List Place). Cleared (g.R.Ranking.ahead c.args.rule.now) (cover_of c.args.covers.now) old new c.clear_all.result)
          (take_within k n ps c.front_len-n.ensures) (sym (front_is k n ps c.front_len-n.ensures qs long)) c.clear_all.ensures;
      behind = behind_is k n ps c.front_len-n.ensures qs long;
    }
