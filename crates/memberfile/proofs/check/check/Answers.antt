use Rattle.std.proofs.Common.{◌<◌, ◌≤◌, length, Err, sym, ap, ◌∙◌, subst, leb-false, leb-true}
use Rattle.std.proofs.lemmas.Result.{err_from_is_err_and}
use Rattle.memberfile.specs.Judge.{disorder, summed}
use Rattle.memberfile.proofs.Turns.{judge_long, begins, refused_at_lem, goes_on_at, accepted, behind_end}
use Rattle.memberfile.proofs.check.check.Goals as goal

pub returns-then-bytes-gt-FILE_MOST_BYTES : goal.returns-then-bytes-gt-FILE_MOST_BYTES
returns-then-bytes-gt-FILE_MOST_BYTES c = ap Err c.in_fields.ensures ∙ sym (ap summed (judge_long c.args.bytes.now c.if-bytes-gt-FILE_MOST_BYTES.true))

pub loop-stage-init : goal.loop-stage-init
loop-stage-init c = (c.new-reader.ensures.bytes, c.if-bytes-gt-FILE_MOST_BYTES.false, begins c.args.bytes.now c.if-bytes-gt-FILE_MOST_BYTES.false c.new-reader.ensures.at)

pub returns-then-not-is_done : goal.returns-then-not-is_done
returns-then-not-is_done c =
    let more : c.loop-stage.reader.at < length c.args.bytes.now = subst (λ b. c.loop-stage.reader.at < length b) c.loop-stage.invariant.0 (leb-false _ _ (sym c.is_done.ensures ∙ c.if-not-is_done.true)) in
    ap Err (c.in_file.ensures ∙ ap disorder c.place.ensures.value) ∙ sym (ap summed (behind_end c.loop-stage.invariant.2 _ c.in-AfterEnd.is more))

pub returns : goal.returns
returns c =
    let all : length c.args.bytes.now ≤ c.loop-stage.reader.at = subst (λ b. length b ≤ c.loop-stage.reader.at) c.loop-stage.invariant.0 (leb-true _ _ (sym c.is_done.ensures ∙ c.if-not-is_done.false)) in
    accepted c.loop-stage.invariant.2 _ c.in-AfterEnd.is all

pub returns-in_err-stage : goal.returns-in_err-stage
returns-in_err-stage c =
    let p = err_from_is_err_and c.from_residual.result c.from_residual.ensures.1 in
    p.1 ∙ ap Err p.2 ∙ sym (ap summed (refused_at_lem c.loop-stage.invariant.2 _ _ c.loop-stage.invariant.0 c.in_default.not-AfterEnd c.in_err-stage.ensures.value))

pub loop-stage-preserved : goal.loop-stage-preserved
loop-stage-preserved c =
    let t = c.in_ok-stage.ensures in
    (t.bytes ∙ c.loop-stage.invariant.0, c.loop-stage.invariant.1, goes_on_at c.loop-stage.invariant.2 c.in_ok-stage.field-0 _ c.loop-stage.invariant.0 c.in_default.not-AfterEnd t.value _ t.after t.within t.room)
