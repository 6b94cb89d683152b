use Rattle.std.proofs.Common.{[], ◌∷◌, sym, ap, ◌∙◌}
use Rattle.wire.specs.Bytes.{in_bytes}
use Rattle.pen.proofs.Lent.{wrote_as, wrote_more}
use Rattle.writer.proofs.Tags.{width_bytes}
use Rattle.writer.proofs.records.write_tag.Goals as goal

pub returns : goal.returns
returns c = record { name = cc; wrote = wrote_more (wrote_as (ap (λ b. b ∷ []) (sym c.from.ensures)) c.put.ensures.wrote) (wrote_as (sym (width_bytes c.args.tag) ∙ sym (ap (in_bytes 2) c.width.ensures)) c.put-2.ensures.wrote) }
