-- The words of the language. In a word `@` stands for a letter and `$` for a letter or a digit, so
-- `@$$$$$$$$$$` is an identifier.
use Rattle.std.specs.Prelude.{ℕ, List, [], ◌∷◌, codes, slice_index}
use Rattle.dh_base.specs.declared.plain.Rate.{Rate}
use Rattle.dh_base.specs.declared.plain.Rate.TheVariants as rates
use Rattle.expr_lang.specs.declared.tree.Binary.{Binary}
use Rattle.expr_lang.specs.declared.tree.Binary.TheVariants as binary
use Rattle.expr_lang.specs.declared.tree.Place.{Place}
use Rattle.expr_lang.specs.declared.tree.Place.TheVariants as place
use Rattle.expr_lang.specs.declared.words.Symbol.{Symbol}
use Rattle.expr_lang.specs.declared.words.Symbol.TheVariants as symbol
use Rattle.expr_lang.specs.declared.words.Call.{Call}
use Rattle.expr_lang.specs.declared.words.Call.TheVariants as call
use Rattle.expr_lang.specs.declared.words.ItemForm.{ItemForm}
use Rattle.expr_lang.specs.declared.words.ItemForm.TheVariants as form

abbrev pub operator_text_of : Binary → List ℕ
operator_text_of binary.Or = codes "||"
operator_text_of binary.And = codes "&&"
operator_text_of binary.Equal = codes "=="
operator_text_of binary.NotEqual = codes "!="
operator_text_of binary.Less = codes "<"
operator_text_of binary.AtMost = codes "<="
operator_text_of binary.Greater = codes ">"
operator_text_of binary.AtLeast = codes ">="
operator_text_of binary.Add = codes "+"
operator_text_of binary.Subtract = codes "-"
operator_text_of binary.Multiply = codes "*"
operator_text_of binary.Divide = codes "/"
operator_text_of binary.Remainder = codes "%"
operator_text_of binary.DaysBetween = codes "d2:daysBetween"
operator_text_of binary.Comma = codes ","

abbrev pub call_text_of : Call → List ℕ
call_text_of call.If = codes "if"
call_text_of call.Condition = codes "d2:condition"
call_text_of call.IsNull = codes "isNull"
call_text_of call.IsNotNull = codes "isNotNull"
call_text_of call.FirstNonNull = codes "firstNonNull"
call_text_of call.Greatest = codes "greatest"
call_text_of call.Least = codes "least"
call_text_of call.DaysBetween = codes "d2:daysBetween"
call_text_of call.HasValue = codes "d2:hasValue"
call_text_of call.Zing = codes "d2:zing"
call_text_of call.Oizp = codes "d2:oizp"

abbrev pub rate_text_of : Rate → List ℕ
rate_text_of rates.Expected = codes "R{@$$$$$$$$$$.EXPECTED_REPORTS}"
rate_text_of rates.Actual = codes "R{@$$$$$$$$$$.ACTUAL_REPORTS}"
rate_text_of rates.OnTime = codes "R{@$$$$$$$$$$.ACTUAL_REPORTS_ON_TIME}"
rate_text_of rates.Reported = codes "R{@$$$$$$$$$$.REPORTING_RATE}"
rate_text_of rates.ReportedOnTime = codes "R{@$$$$$$$$$$.REPORTING_RATE_ON_TIME}"

abbrev pub item_text_of : ItemForm → List ℕ
item_text_of form.Element = codes "#{@$$$$$$$$$$}"
item_text_of form.ElementCombo = codes "#{@$$$$$$$$$$.@$$$$$$$$$$}"
item_text_of form.ElementCombos = codes "#{@$$$$$$$$$$.@$$$$$$$$$$.@$$$$$$$$$$}"
item_text_of form.Constant = codes "C{@$$$$$$$$$$}"
item_text_of form.Group = codes "OUG{@$$$$$$$$$$}"
item_text_of form.Days = codes "[days]"
item_text_of (form.Rate rate) = rate_text_of rate
item_text_of form.StageElement = codes "#{@$$$$$$$$$$.@$$$$$$$$$$}"
item_text_of form.Attribute = codes "A{@$$$$$$$$$$}"
item_text_of form.EventDate = codes "V{event_date}"
item_text_of form.EnrollmentDate = codes "V{enrollment_date}"
item_text_of form.EventCount = codes "V{event_count}"
item_text_of form.EnrollmentCount = codes "V{enrollment_count}"
item_text_of form.EntityCount = codes "V{tei_count}"

unfoldable pub text_of : Symbol → List ℕ
text_of symbol.Open = codes "("
text_of symbol.Close = codes ")"
text_of symbol.Comma = codes ","
text_of symbol.Quote = codes "'"
text_of symbol.Caret = codes "^"
text_of symbol.Minus = codes "-"
text_of symbol.Bang = codes "!"
text_of (symbol.Operator operator) = operator_text_of operator
text_of (symbol.Call call) = call_text_of call
text_of (symbol.Item form) = item_text_of form

-- the first letter of a word
abbrev pub letter_of : Symbol → ℕ
letter_of word = slice_index (text_of word) 0

-- the items of each place
unfoldable pub items_of_place : Place → List Symbol
items_of_place place.Aggregate =
    symbol.Item form.Element ∷ symbol.Item form.ElementCombo ∷ symbol.Item form.ElementCombos ∷ symbol.Item form.Constant
    ∷ symbol.Item form.Group ∷ symbol.Item form.Days ∷ symbol.Item (form.Rate rates.Expected) ∷ symbol.Item (form.Rate rates.Actual)
    ∷ symbol.Item (form.Rate rates.OnTime) ∷ symbol.Item (form.Rate rates.Reported) ∷ symbol.Item (form.Rate rates.ReportedOnTime) ∷ []
items_of_place place.Program =
    symbol.Item form.StageElement ∷ symbol.Item form.Attribute ∷ symbol.Item form.Constant ∷ symbol.Item form.EventDate
    ∷ symbol.Item form.EnrollmentDate ∷ []

-- what an operand may begin with, beside a number
unfoldable pub operands_of : Place → List Symbol
operands_of place.Aggregate =
    symbol.Minus ∷ symbol.Bang ∷ symbol.Open ∷ symbol.Call call.If ∷ symbol.Call call.IsNull ∷ symbol.Call call.IsNotNull
    ∷ symbol.Call call.FirstNonNull ∷ symbol.Call call.Greatest ∷ symbol.Call call.Least
    ∷ symbol.Item form.Element ∷ symbol.Item form.ElementCombo ∷ symbol.Item form.ElementCombos ∷ symbol.Item form.Constant
    ∷ symbol.Item form.Group ∷ symbol.Item form.Days ∷ symbol.Item (form.Rate rates.Expected) ∷ symbol.Item (form.Rate rates.Actual)
    ∷ symbol.Item (form.Rate rates.OnTime) ∷ symbol.Item (form.Rate rates.Reported) ∷ symbol.Item (form.Rate rates.ReportedOnTime) ∷ []
operands_of place.Program =
    symbol.Minus ∷ symbol.Bang ∷ symbol.Open ∷ symbol.Call call.If ∷ symbol.Call call.Greatest ∷ symbol.Call call.Least
    ∷ symbol.Call call.Condition ∷ symbol.Call call.DaysBetween ∷ symbol.Call call.HasValue ∷ symbol.Call call.Zing ∷ symbol.Call call.Oizp
    ∷ symbol.Item form.StageElement ∷ symbol.Item form.Attribute ∷ symbol.Item form.Constant ∷ symbol.Item form.EventDate
    ∷ symbol.Item form.EnrollmentDate ∷ []

-- what a whole expression may begin with, beside a number
unfoldable pub start_of : Place → List Symbol
start_of place.Aggregate =
    symbol.Minus ∷ symbol.Bang ∷ symbol.Open ∷ symbol.Call call.If ∷ symbol.Call call.IsNull ∷ symbol.Call call.IsNotNull
    ∷ symbol.Call call.FirstNonNull ∷ symbol.Call call.Greatest ∷ symbol.Call call.Least
    ∷ symbol.Item form.Element ∷ symbol.Item form.ElementCombo ∷ symbol.Item form.ElementCombos ∷ symbol.Item form.Constant
    ∷ symbol.Item form.Group ∷ symbol.Item form.Days ∷ symbol.Item (form.Rate rates.Expected) ∷ symbol.Item (form.Rate rates.Actual)
    ∷ symbol.Item (form.Rate rates.OnTime) ∷ symbol.Item (form.Rate rates.Reported) ∷ symbol.Item (form.Rate rates.ReportedOnTime) ∷ []
start_of place.Program =
    symbol.Minus ∷ symbol.Bang ∷ symbol.Open ∷ symbol.Call call.If ∷ symbol.Call call.Greatest ∷ symbol.Call call.Least
    ∷ symbol.Call call.Condition ∷ symbol.Call call.DaysBetween ∷ symbol.Call call.HasValue ∷ symbol.Call call.Zing ∷ symbol.Call call.Oizp
    ∷ symbol.Item form.StageElement ∷ symbol.Item form.Attribute ∷ symbol.Item form.Constant ∷ symbol.Item form.EventDate
    ∷ symbol.Item form.EnrollmentDate ∷ symbol.Item form.EventCount ∷ symbol.Item form.EnrollmentCount ∷ symbol.Item form.EntityCount ∷ []

-- what may follow an operand
unfoldable pub followers : List Symbol
followers =
    symbol.Caret ∷ symbol.Close ∷ symbol.Comma ∷ symbol.Quote ∷ symbol.Operator binary.Or ∷ symbol.Operator binary.And
    ∷ symbol.Operator binary.Equal ∷ symbol.Operator binary.NotEqual ∷ symbol.Operator binary.Less ∷ symbol.Operator binary.AtMost
    ∷ symbol.Operator binary.Greater ∷ symbol.Operator binary.AtLeast ∷ symbol.Operator binary.Add ∷ symbol.Operator binary.Subtract
    ∷ symbol.Operator binary.Multiply ∷ symbol.Operator binary.Divide ∷ symbol.Operator binary.Remainder ∷ []

unfoldable pub marks_of : List Symbol
marks_of = symbol.Close ∷ symbol.Comma ∷ symbol.Quote ∷ []

unfoldable pub bracket_of : List Symbol
bracket_of = symbol.Open ∷ []

unfoldable pub nothing_of : List Symbol
nothing_of = []
