use Rattle.std.proofs.Common.{ℕ, ◌+◌, IfOk, sym, ap, ◌∙◌, subst}
use Rattle.wire.specs.Records.{said}
use Rattle.wire.specs.declared.row.Row.TheVariants.{Presentation, Return}
use Rattle.memberfile.specs.Stages.{Room, stepped, takes}
use Rattle.memberfile.proofs.stage.decide.Goals as goal

pub returns-in-InBatch-Presentation : goal.returns-in-InBatch-Presentation
returns-in-InBatch-Presentation c =
    let w = c.in-InBatch-Presentation in
    record {
      value = c.take.ensures.value ∙ ap (λ p. takes w.sofar w.batch (Presentation p)) c.presentation_in.ensures ∙ sym (λ i. stepped (w.is-0 i) (said (w.is-1 i)));
      room = subst (λ s. IfOk c.take.result (λ m. (n : ℕ) → Room n s → Room (n + 1) m.stage)) (sym w.is-0) c.take.ensures.room;
    }

pub returns-in-InBatch-Return : goal.returns-in-InBatch-Return
returns-in-InBatch-Return c =
    let w = c.in-InBatch-Return in
    record {
      value = c.take-in-InBatch-Return.ensures.value ∙ ap (λ p. takes w.sofar w.batch (Return p)) c.return_in.ensures ∙ sym (λ i. stepped (w.is-0 i) (said (w.is-1 i)));
      room = subst (λ s. IfOk c.take-in-InBatch-Return.result (λ m. (n : ℕ) → Room n s → Room (n + 1) m.stage)) (sym w.is-0) c.take-in-InBatch-Return.ensures.room;
    }
