-- Parts of records, as the writer puts them one behind another.
use Rattle.std.specs.Prelude.{ℕ, List, [], ◌∷◌}
use Rattle.memberfile.specs.Layout.{enc_record}
use Rattle.terms.specs.Numbers.{batch_kind}
use Rattle.terms.specs.declared.file_kind.FileKind.{FileKind}
use Rattle.wire.specs.Bytes.{in_bytes}
use Rattle.wire.specs.Records.{tag_byte, width}
use Rattle.wire.specs.declared.record.Tag.{Tag}
use Rattle.wire.specs.declared.record.Tag.TheVariants.{BatchHeader}

-- the tag of a record and the length of its value
abbrev pub head_bytes : Tag → List ℕ
head_bytes t = tag_byte t ∷ 0 ∷ width t ∷ []

-- the header of a batch of a file of a kind
abbrev pub enc_batch_head_of : FileKind → ℕ → List ℕ
enc_batch_head_of k n = enc_record BatchHeader (batch_kind k ∷ in_bytes 2 n)
