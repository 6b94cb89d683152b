-- The length of a value, as a record's head has it.
use Rattle.std.proofs.Common.{◌≡◌, ◌<◌, [], ◌∷◌, refl, lit<}
use Rattle.wire.specs.Bytes.{in_bytes}
use Rattle.wire.specs.Records.{width}
use Rattle.wire.specs.declared.record.Tag.{Tag}
use Rattle.wire.specs.declared.record.Tag.TheVariants.{FileHeader, BatchHeader, Presentation, Return, BatchEnd, FileEnd}

pub width_bytes : (t : Tag) → in_bytes 2 (width t) ≡ 0 ∷ width t ∷ []
width_bytes FileHeader = refl
width_bytes BatchHeader = refl
width_bytes Presentation = refl
width_bytes Return = refl
width_bytes BatchEnd = refl
width_bytes FileEnd = refl

pub width_small : (t : Tag) → width t < 65536
width_small FileHeader = lit< tt
width_small BatchHeader = lit< tt
width_small Presentation = lit< tt
width_small Return = lit< tt
width_small BatchEnd = lit< tt
width_small FileEnd = lit< tt
