use Rattle.std.proofs.Common.{◌≡◌, ℕ, ◌+◌, ◌<◌, min, List, [], ◌∷◌, ◌++◌, map, length, get_or, take, drop, vec_len, sym, refl, ap, ◌∙◌, subst, subst₂, arith, length-take, get_or-take}
use Rattle.std.proofs.lemmas.List.{map_more, take_more_set, drop-set-lt, drop-drop}
use Rattle.terms.specs.Dockets.{day_of}
use Rattle.desk.specs.Books.{Meant}
use Rattle.desk.specs.Calls.{meaning}
use Rattle.desk.specs.Runs.{Leaves, Makes}
use Rattle.desk.specs.declared.calls.Answer.{Answer}
use Rattle.desk.proofs.Runs.{leaves_more, leaves_none}
use Rattle.desk.proofs.desk.replay.Goals as goal

pub loop-i-init : goal.loop-i-init
loop-i-init g c = (leaves_none _ _ _ _ (record { ledger = c.open-s.ensures.ledger; state = c.open-s.ensures.cleared }), refl)

pub loop-i-preserved : goal.loop-i-preserved
loop-i-preserved g c =
    let mk = meaning g.I.Instrument.meaning g.R.Ranking.ahead g.C.CoverSource.covers in
    let f = mk (length c.args.out.now) in
    let ks = c.args.calls.now in
    let i = c.loop-i.i in
    let k = c.call-item.result in
    let rs = c.loop-i.answers in
    let a = c.act.result in
    let n = c.min-n.result in
    let ln : i < n = omega (arith, length-take n ks, c.loop-i-test.true) in
    let lk : i < length ks = omega (arith, length-take n ks, c.loop-i-test.true) in
    let lr : i < length rs = omega (arith, ln, c.min-n.ensures, c.loop-i.auto.answers) in
    let here : get_or ks i k ≡ k = sym (get_or-take n ks i k ln) ∙ sym c.call-item.is in
    let done = subst (λ (j : ℕ). Makes (mk j k) c.loop-i.s c.act.new.s c.loop-i.out c.act.new.out a) c.loop-i.auto.out c.act.ensures in
    let e : map f (take (i + 1) ks) ≡ map f (take i ks) ++ (f k ∷ []) = map_more f ks i k lk ∙ ap (λ x. map f (take i ks) ++ (f x ∷ [])) here in (
      subst₂ (λ (x : List Meant) (y : List Answer). Leaves (day_of c.args.docket) (min (vec_len c.args.places) 4096) x c.act.new.s y c.args.out.now c.act.new.out) (sym e) (sym (take_more_set rs i a lr)) (leaves_more c.loop-i.invariant.0 done),
      drop-set-lt (i + 1) rs i a (omega arith) ∙ sym (drop-drop 1 i rs) ∙ ap (drop 1) c.loop-i.invariant.1 ∙ drop-drop 1 i c.args.answers.now,
    )

pub returns-clause-left : goal.returns-clause-left
returns-clause-left g c =
    let f = meaning g.I.Instrument.meaning g.R.Ranking.ahead g.C.CoverSource.covers (length c.args.out.now) in
    let at : c.loop-i.i ≡ c.min-n.result = omega (arith, length-take c.min-n.result c.args.calls.now, c.min-n.ensures) in
    subst (λ (j : ℕ). Leaves (day_of c.args.docket) (min (vec_len c.args.places) 4096) (map f (take j c.args.calls.now)) c.loop-i.s (take j c.loop-i.answers) c.args.out.now c.loop-i.out) at c.loop-i.invariant.0
