use Rattle.std.proofs.Common.{drop, ap, ◌∙◌, arith}
use Rattle.std.proofs.lemmas.Result.{IfOk-weaker}
use Rattle.memberfile.specs.Judge.{turned_by, gone_by}
use Rattle.wire.specs.Records.{first_record, said}
use Rattle.memberfile.specs.Stages.{step_at}
use Rattle.memberfile.proofs.Turns.{gone_at_place, on_ok, room_more}
use Rattle.memberfile.proofs.check.turn.Goals as goal

pub returns : goal.returns
returns c =
    record {
      value = c.step.ensures.value ∙ ap (λ n. step_at n c.args.stage (said c.in_ok-met.met)) c.place-place.ensures.value ∙ ap (turned_by c.args.reader.now.at c.args.stage) c.in_ok-met.ensures.value;
      after = on_ok c.step.result (omega (arith, c.in_ok-met.ensures.after, ap gone_by c.in_ok-met.ensures.value, gone_at_place c.args.reader.now.at (first_record (drop c.args.reader.now.at c.args.reader.now.bytes.now))));
      far = on_ok c.step.result (omega (arith, c.in_ok-met.ensures.after));
      within = c.in_ok-met.ensures.within;
      bytes = c.in_ok-met.ensures.bytes;
      room = IfOk-weaker c.step.result _ _ (λ m r. room_more _ _ _ (omega (arith, c.in_ok-met.ensures.after)) (r c.args.reader.now.at c.requires.room)) c.step.ensures.room;
    }
