use Rattle.std.proofs.Common.{sym, ◌∙◌}
use Rattle.exactness.proofs.Complete.{accepts, same_file}
use Rattle.exactness.proofs.Examples.{example_stands}
use Rattle.exactness.proofs.Refuse.{refuses}
use Rattle.exactness.proofs.Refuted.{refuted}
use Rattle.exactness.proofs.Sound.{sound}
use Rattle.exactness.proofs.judged.files_are_exact.Goals as goal

pub returns : goal.returns
returns c =
    record {
      back = accepts;
      only = sound;
      file = same_file;
      writing = λ bs cs f o p e h. (sound bs f o e).1 ∙ sym (sound cs f p h).1;
      refused = λ bs x o. (refuses bs x o, refuted bs x);
      example = example_stands;
    }
