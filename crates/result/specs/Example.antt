-- A result worked by hand: member 2 has paid 500 céntimos to member 7, and a second transfer of 300 was withdrawn.
use Rattle.std.specs.Prelude.{true, false, [], ◌∷◌, pos, negsuc}
use Rattle.terms.specs.declared.currency.Currency.TheVariants.{Soles}
use Rattle.terms.specs.declared.cycle.Cycle.TheVariants.{Morning}
use Rattle.clearing.specs.declared.entry.Entry.{Entry}
use Rattle.result.specs.Layout.{ResultValue}
use Rattle.result.specs.declared.member_line.MemberLine.{MemberLine}

-- the position of member 2 is -500
abbrev pub payer : MemberLine
payer = record { code = 2; position = negsuc 499; cover = 500 }

abbrev pub receiver : MemberLine
receiver = record { code = 7; position = pos 500; cover = 0 }

-- the transfer that was withdrawn
abbrev pub second : Entry
second =
    record {
      record_type = 220;
      origin = 2;
      other = 7;
      reference = 2;
      amount = 300;
      commission = 0;
      worth = 300;
      payer = 0;
      receiver = 1;
      returnable = true;
      returned = false;
    }

abbrev pub example_result : ResultValue
example_result = record { currency = Soles; cycle = Morning; date = 20240305; members = payer ∷ receiver ∷ []; withdrawn = second ∷ [] }
