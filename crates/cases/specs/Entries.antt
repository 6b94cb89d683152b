-- How the cases name members and write entries.
use Rattle.std.specs.Prelude.{ℕ, ◌-◌, true, false}
use Rattle.clearing.specs.declared.entry.Entry.{Entry}
use Rattle.cases.specs.declared.table.Party.{Party}
use Rattle.cases.specs.declared.table.Party.TheVariants.{Two, Seven, Nine}

-- the member code
abbrev pub code_of : Party → ℕ
code_of Two = 2
code_of Seven = 7
code_of Nine = 9

-- the place on the roll, which is 2, 7, 9
abbrev pub place_of : Party → ℕ
place_of Two = 0
place_of Seven = 1
place_of Nine = 2

-- a credit transfer of a type, with no commission, under a session number
abbrev pub transfer_of : ℕ → ℕ → Party → Party → ℕ → Entry
transfer_of type number from to amount = record {
  record_type = type;
  origin = code_of from;
  other = code_of to;
  reference = number;
  amount = amount;
  commission = 0;
  worth = amount;
  payer = place_of from;
  receiver = place_of to;
  returnable = true;
  returned = false;
}

-- an ordinary transfer
abbrev pub transfer : ℕ → Party → Party → ℕ → Entry
transfer number from to amount = transfer_of 220 number from to amount

-- a payment of wages
abbrev pub wages : ℕ → Party → Party → ℕ → Entry
wages number from to amount = transfer_of 221 number from to amount

-- a charged debit, which is worth its amount without the commission
abbrev pub debit : ℕ → Party → Party → ℕ → ℕ → Entry
debit number from to amount commission = record {
  record_type = 100;
  origin = code_of from;
  other = code_of to;
  reference = number;
  amount = amount;
  commission = commission;
  worth = amount - commission;
  payer = place_of from;
  receiver = place_of to;
  returnable = false;
  returned = false;
}

-- the entry after its return
abbrev pub sent_back : Entry → Entry
sent_back e = record {
  record_type = e.record_type;
  origin = e.origin;
  other = e.other;
  reference = e.reference;
  amount = e.amount;
  commission = e.commission;
  worth = e.worth;
  payer = e.payer;
  receiver = e.receiver;
  returnable = e.returnable;
  returned = true;
}
