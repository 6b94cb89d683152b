-- The number of each refusal.
use Rattle.std.specs.Prelude.{ℕ}
use Rattle.terms.specs.declared.refusal.Refusal.{Refusal}
use Rattle.terms.specs.declared.refusal.Refusal.TheVariants.{RollRule, DocketValue, FileTooLong, HeadCut, UnknownTag, WrongLength, ValueCut, OutOfOrder, WrongKind, BatchNumber, TotalDiffers, HeaderValue, NotThisSession, OriginOffRoll, FileNumber, ReturnsNotTaken, CapacityExceeded, OutcomesShort, OtherMember, RecordType, NotAdmitted, ReferenceUsed, NoSuchRecord, AlreadyReturned, ReturnDiffers, ReturnCause, ReportLimits, TooManyReports, NotCleared, NotListed, BufferShort, WriterValue, WriterSpace, WriterKind}
use Rattle.terms.specs.declared.fault.Layer.{Layer}
use Rattle.terms.specs.declared.fault.Layer.TheVariants.{Fields, File, Session}
use Rattle.terms.specs.declared.fault.Fault.{Fault}

abbrev pub code : Refusal → ℕ
code RollRule = 1
code DocketValue = 2
code FileTooLong = 10
code HeadCut = 11
code UnknownTag = 12
code WrongLength = 13
code ValueCut = 11
code OutOfOrder = 20
code WrongKind = 21
code BatchNumber = 22
code TotalDiffers = 23
code HeaderValue = 24
code NotThisSession = 30
code OriginOffRoll = 31
code FileNumber = 32
code ReturnsNotTaken = 33
code CapacityExceeded = 34
code OutcomesShort = 35
code OtherMember = 40
code RecordType = 41
code NotAdmitted = 42
code ReferenceUsed = 43
code NoSuchRecord = 44
code AlreadyReturned = 45
code ReturnDiffers = 46
code ReturnCause = 47
code ReportLimits = 50
code TooManyReports = 51
code NotCleared = 52
code NotListed = 53
code BufferShort = 54
code WriterValue = 60
code WriterSpace = 61
code WriterKind = 62

abbrev pub layer_number : Layer → ℕ
layer_number Fields = 1
layer_number File = 2
layer_number Session = 3

-- a fault of the bytes of a record, at its first byte
abbrev pub fields_fault : Refusal → ℕ → Fault
fields_fault c place = record { cause = c; place = place; layer = Fields }

-- a fault of a record among the others of its file, at its first byte
abbrev pub file_fault : Refusal → ℕ → Fault
file_fault c place = record { cause = c; place = place; layer = File }

-- a fault of a whole file against the session
abbrev pub session_fault : Refusal → Fault
session_fault c = record { cause = c; place = 0; layer = Session }
