-- No refusal has the number 0, which is the outcome of a row that is taken.
use Rattle.std.proofs.Common.{◌≡◌, false, eqb, refl}
use Rattle.terms.specs.Codes.{code}
use Rattle.terms.specs.declared.refusal.Refusal.{Refusal}
use Rattle.terms.specs.declared.refusal.Refusal.TheVariants.{RollRule, DocketValue, FileTooLong, HeadCut, UnknownTag, WrongLength, ValueCut, OutOfOrder, WrongKind, BatchNumber, TotalDiffers, HeaderValue, NotThisSession, OriginOffRoll, FileNumber, ReturnsNotTaken, CapacityExceeded, OutcomesShort, OtherMember, RecordType, NotAdmitted, ReferenceUsed, NoSuchRecord, AlreadyReturned, ReturnDiffers, ReturnCause, ReportLimits, TooManyReports, NotCleared, NotListed, BufferShort, WriterValue, WriterSpace, WriterKind}

pub code_above : (c : Refusal) → eqb (code c) 0 ≡ false
code_above RollRule = refl
code_above DocketValue = refl
code_above FileTooLong = refl
code_above HeadCut = refl
code_above UnknownTag = refl
code_above WrongLength = refl
code_above ValueCut = refl
code_above OutOfOrder = refl
code_above WrongKind = refl
code_above BatchNumber = refl
code_above TotalDiffers = refl
code_above HeaderValue = refl
code_above NotThisSession = refl
code_above OriginOffRoll = refl
code_above FileNumber = refl
code_above ReturnsNotTaken = refl
code_above CapacityExceeded = refl
code_above OutcomesShort = refl
code_above OtherMember = refl
code_above RecordType = refl
code_above NotAdmitted = refl
code_above ReferenceUsed = refl
code_above NoSuchRecord = refl
code_above AlreadyReturned = refl
code_above ReturnDiffers = refl
code_above ReturnCause = refl
code_above ReportLimits = refl
code_above TooManyReports = refl
code_above NotCleared = refl
code_above NotListed = refl
code_above BufferShort = refl
code_above WriterValue = refl
code_above WriterSpace = refl
code_above WriterKind = refl
