use Rattle.std.proofs.Common.{◌-◌, length}
use Rattle.kohyrumba.proofs.records.show_records.Given as goal

abbrev pub decreases-loop-reader : goal.decreases-loop-reader
decreases-loop-reader l = length l.reader.bytes.now - l.reader.at
