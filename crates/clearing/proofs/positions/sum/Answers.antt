use Rattle.std.proofs.Common.{◌≡◌, ℕ, ◌+◌, Bool, true, false, cond, ◌&&◌, List, length, sym, ap, ◌∙◌, arith, rules}
use Rattle.std.proofs.lemmas.Bool.{and_from, and_left, and_right}
use Rattle.clearing.specs.Choices.{up_to, share, total}
use Rattle.clearing.specs.Table.{entries, kept}
use Rattle.clearing.specs.declared.entry.Entry.{Entry}
use Rattle.clearing.specs.declared.place.Place.{Place}
use Rattle.clearing.proofs.Marks.{entries_long, share_here}
use Rattle.clearing.proofs.Sums.{up_to_none, up_to_more}
use Rattle.clearing.proofs.positions.sum.Goals as goal
use Rattle.clearing.proofs.positions.sum.Goals.{then-place+then-passes, else-place, else-place-via-then-place+else-passes, else-place-via-else-place}

pub loop-place-init : goal.loop-place-init
loop-place-init g c = (λ test agree. sym (up_to_none _), omega arith)

pub loop-place-preserved : goal.loop-place-preserved
loop-place-preserved g c =
    let ps = c.front-place-items.result.now in
    let i = c.loop-place.place-index in
    let x = c.place-item.result in
    let inv = c.loop-place.invariant in
    let here : (b t : Bool) (w : ℕ) → b ≡ t → cond b w 0 ≡ cond t w 0 = λ b t w e. ap (λ (y : Bool). cond y w 0) e in
    let more : (test : Entry → Bool) → up_to (share test (entries ps) (kept ps)) (i + 1) ≡ up_to (share test (entries ps) (kept ps)) i + cond (x.kept && test x.entry) x.entry.worth 0 =
    λ test. omega (arith, up_to_more (share test (entries ps) (kept ps)) i, share_here ps i x c.loop-place-test.true c.place-item.is test) in
    elim c.if-place.branch [
      | then-place+then-passes w ↦ (
        λ test agree.
            let said : w.passes.result ≡ test x.entry = agree x.entry w.passes.result (search rules) in
            omega (arith, w.all-is, w.from-all.ensures, more test, inv.0 test agree, here (x.kept && test x.entry) true x.entry.worth (and_from x.kept (test x.entry) w.if-place.true (sym said ∙ w.if-passes.true))),
        omega (arith, w.all-is, w.from-all.ensures, inv.1, x.limited),
      )
      | else-place w ↦ (
        λ test agree.
            let out : (x.kept && test x.entry) ≡ false =
            elim w.else-place.branch [
              | else-place-via-then-place+else-passes v ↦ and_right x.kept (test x.entry) (sym (agree x.entry v.passes.result (search rules)) ∙ v.if-passes.false)
              | else-place-via-else-place v ↦ and_left x.kept (test x.entry) v.if-place.false
            ] in
            omega (arith, w.all-is, more test, inv.0 test agree, here (x.kept && test x.entry) false x.entry.worth out),
        omega (arith, w.all-is, inv.1),
      )
    ]

pub returns-clause-sum : goal.returns-clause-sum
unfolding total
returns-clause-sum g c = λ test agree.
    let ps = c.front-place-items.result.now in
    let end : c.loop-place.place-index ≡ length (entries ps) = omega (arith, entries_long ps) in
    c.loop-place.invariant.0 test agree ∙ ap (up_to (share test (entries ps) (kept ps))) end ∙ ap (λ (qs : List Place). total test (entries qs) (kept qs)) c.front-place-items.ensures.places
