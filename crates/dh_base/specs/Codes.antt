-- The table of the product's codes. An F code refuses a whole request, a C code one data value of a
-- data value set, a T code one object of a tracker bundle.
use Rattle.std.specs.Prelude.{ℕ, List, codes}
use Rattle.dh_base.specs.declared.codes.Code.{Code}
use Rattle.dh_base.specs.declared.codes.Code.TheVariants.{F1, F2, F3, F4, F5, F6, F7, F8, F10, F11, F12, F13, F14, F15, F16, F17, F18, F19, F20, F21}
use Rattle.dh_base.specs.declared.codes.Code.TheVariants.{F22, F23, F30, F31, F32, F40, F41, F42, F43, F44, F45, C1, C2, C3, C4, C5, C6, C7, C8, C9, C10}
use Rattle.dh_base.specs.declared.codes.Code.TheVariants.{C11, C12, C13, C14, C15, T1, T2, T3, T4, T5, T6, T7, T8, T9, T10, T11, T12, T13, T14}

-- a row of the table: the number that is written, the name with which the message begins, and the HTTP status
pub record Entry : Type 0 where
  pub number : List ℕ
  pub name : List ℕ
  pub status : ℕ

abbrev pub row : List ℕ → List ℕ → ℕ → Entry
row n m s = record { number = n; name = m; status = s }

abbrev pub row_of : Code → Entry
row_of F1 = row (codes "F1") (codes "BadHead") 400
row_of F2 = row (codes "F2") (codes "HeadTooLong") 431
row_of F3 = row (codes "F3") (codes "BodyTooLong") 413
row_of F4 = row (codes "F4") (codes "BadFraming") 400
row_of F5 = row (codes "F5") (codes "NotPlain") 415
row_of F6 = row (codes "F6") (codes "NoRoute") 404
row_of F7 = row (codes "F7") (codes "NoMethod") 405
row_of F8 = row (codes "F8") (codes "NoUser") 401
row_of F10 = row (codes "F10") (codes "BadDimension") 409
row_of F11 = row (codes "F11") (codes "NoData") 409
row_of F12 = row (codes "F12") (codes "NoPeriod") 409
row_of F13 = row (codes "F13") (codes "NoUnit") 409
row_of F14 = row (codes "F14") (codes "NotSeen") 409
row_of F15 = row (codes "F15") (codes "OutsideView") 409
row_of F16 = row (codes "F16") (codes "TooManyCells") 409
row_of F17 = row (codes "F17") (codes "Unsupported") 409
row_of F18 = row (codes "F18") (codes "Wide") 409
row_of F19 = row (codes "F19") (codes "NotYet") 409
row_of F20 = row (codes "F20") (codes "BadBody") 400
row_of F21 = row (codes "F21") (codes "BadParameter") 400
row_of F22 = row (codes "F22") (codes "LogFull") 409
row_of F23 = row (codes "F23") (codes "StoreFault") 503
row_of F30 = row (codes "F30") (codes "Busy") 409
row_of F31 = row (codes "F31") (codes "NotAllowed") 403
row_of F32 = row (codes "F32") (codes "UpdatesSpent") 409
row_of F40 = row (codes "F40") (codes "NoRight") 403
row_of F41 = row (codes "F41") (codes "NotReady") 409
row_of F42 = row (codes "F42") (codes "AlreadyApproved") 409
row_of F43 = row (codes "F43") (codes "NotApproved") 409
row_of F44 = row (codes "F44") (codes "ApprovedAbove") 409
row_of F45 = row (codes "F45") (codes "NotAccepted") 409
row_of C1 = row (codes "C1") (codes "Element") 409
row_of C2 = row (codes "C2") (codes "Unit") 409
row_of C3 = row (codes "C3") (codes "Period") 409
row_of C4 = row (codes "C4") (codes "DataSet") 409
row_of C5 = row (codes "C5") (codes "PeriodType") 409
row_of C6 = row (codes "C6") (codes "OptionCombo") 409
row_of C7 = row (codes "C7") (codes "AttributeCombo") 409
row_of C8 = row (codes "C8") (codes "Assigned") 409
row_of C9 = row (codes "C9") (codes "NoWrite") 409
row_of C10 = row (codes "C10") (codes "Scope") 409
row_of C11 = row (codes "C11") (codes "Value") 409
row_of C12 = row (codes "C12") (codes "Future") 409
row_of C13 = row (codes "C13") (codes "Expired") 409
row_of C14 = row (codes "C14") (codes "Approved") 409
row_of C15 = row (codes "C15") (codes "Strategy") 409
row_of T1 = row (codes "T1") (codes "Uid") 409
row_of T2 = row (codes "T2") (codes "Reference") 409
row_of T3 = row (codes "T3") (codes "Unit") 409
row_of T4 = row (codes "T4") (codes "Parent") 409
row_of T5 = row (codes "T5") (codes "Program") 409
row_of T6 = row (codes "T6") (codes "Scope") 409
row_of T7 = row (codes "T7") (codes "NoWrite") 409
row_of T8 = row (codes "T8") (codes "Status") 409
row_of T9 = row (codes "T9") (codes "Date") 409
row_of T10 = row (codes "T10") (codes "DateMissing") 409
row_of T11 = row (codes "T11") (codes "Value") 409
row_of T12 = row (codes "T12") (codes "Item") 409
row_of T13 = row (codes "T13") (codes "Strategy") 409
row_of T14 = row (codes "T14") (codes "Twice") 409

abbrev pub number_of : Code → List ℕ
number_of code = (row_of code).number

abbrev pub name_of : Code → List ℕ
name_of code = (row_of code).name

abbrev pub status_of : Code → ℕ
status_of code = (row_of code).status
