-- The text of an expression, with the fewest brackets.
use Rattle.std.specs.Prelude.{ℕ, zero, suc, ◌+◌, ◌/◌, ◌%◌, ◌^◌, ◌≡◌, Bool, List, [], ◌∷◌, ◌++◌, Option, Some, None, nat_eq, nat_lt, if◌then◌else◌, codes}
use Rattle.std.specs.Fmt.{decimal}
use Rattle.dh_base.specs.declared.plain.Rate.{Rate}
use Rattle.dh_base.specs.declared.plain.Rate.TheVariants as rates
use Rattle.expr_lang.specs.declared.tree.Leaf.{Leaf}
use Rattle.expr_lang.specs.declared.tree.Leaf.TheVariants as leaf
use Rattle.expr_lang.specs.declared.tree.Item.{Item}
use Rattle.expr_lang.specs.declared.tree.Item.TheVariants as item
use Rattle.expr_lang.specs.declared.tree.Unary.{Unary}
use Rattle.expr_lang.specs.declared.tree.Unary.TheVariants as unary
use Rattle.expr_lang.specs.declared.tree.Binary.{Binary}
use Rattle.expr_lang.specs.declared.tree.Binary.TheVariants as binary
use Rattle.expr_lang.specs.Words.{operator_text_of}
use Rattle.expr_lang.specs.Reading.{level_of}
use Rattle.expr_lang.specs.Shape.{Shape, Operand, One, Two, Choice}
use Rattle.expr_lang.specs.Stored.{syntax_of}
use Rattle.expr_lang.specs.Syntax.{Syntax}

-- the digits of n / 10 ^ places after a point, up to the last that isn't 0
abbrev pub decimals_text : ℕ → ℕ → List ℕ
decimals_text zero n = []
decimals_text (suc places) n = if nat_eq n 0 then [] else (48 + n / 10 ^ places) ∷ decimals_text places (n % 10 ^ places)

-- a number of millionths, without trailing zeros and without a bare point
unfoldable pub number_text : ℕ → List ℕ
number_text n = decimal (n / 1000000) ++ (if nat_eq (n % 1000000) 0 then [] else 46 ∷ decimals_text 6 (n % 1000000))

abbrev pub rate_name_of : Rate → List ℕ
rate_name_of rates.Expected = codes "EXPECTED_REPORTS"
rate_name_of rates.Actual = codes "ACTUAL_REPORTS"
rate_name_of rates.OnTime = codes "ACTUAL_REPORTS_ON_TIME"
rate_name_of rates.Reported = codes "REPORTING_RATE"
rate_name_of rates.ReportedOnTime = codes "REPORTING_RATE_ON_TIME"

abbrev pub more_text : Option (List ℕ) → List ℕ
more_text None = []
more_text (Some uid) = codes "." ++ uid

abbrev pub named_text : List ℕ → List ℕ → List ℕ
named_text name uid = name ++ uid ++ codes "}"

unfoldable pub item_text : Item → List ℕ
item_text (item.Element element combo attribute) = codes "#{" ++ element ++ more_text combo ++ more_text attribute ++ codes "}"
item_text (item.Constant uid) = named_text (codes "C{") uid
item_text (item.Group uid) = named_text (codes "OUG{") uid
item_text item.Days = codes "[days]"
item_text (item.Rate set rate) = codes "R{" ++ set ++ codes "." ++ rate_name_of rate ++ codes "}"
item_text (item.StageElement stage element) = codes "#{" ++ stage ++ codes "." ++ element ++ codes "}"
item_text (item.Attribute uid) = named_text (codes "A{") uid
item_text item.EventDate = codes "V{event_date}"
item_text item.EnrollmentDate = codes "V{enrollment_date}"
item_text item.EventCount = codes "V{event_count}"
item_text item.EnrollmentCount = codes "V{enrollment_count}"
item_text item.EntityCount = codes "V{tei_count}"

abbrev pub leaf_text : Leaf → List ℕ
leaf_text (leaf.Number n) = number_text n
leaf_text (leaf.Item i) = item_text i
leaf_text (leaf.Day i) = item_text i

-- how tightly each operator binds: 6 a sign, 7 a power, 8 a call
abbrev pub unary_level_of : Unary → ℕ
unary_level_of unary.Negate = 6
unary_level_of unary.Not = 6
unary_level_of (unary.Power n) = 7
unary_level_of _ = 8

abbrev pub binary_level_of : Binary → ℕ
binary_level_of binary.DaysBetween = 8
binary_level_of operator = level_of operator

abbrev pub exponent_text : ℕ → List ℕ
exponent_text n = if nat_lt n 10 then (48 + n) ∷ [] else (48 + n / 10 % 10) ∷ (48 + n % 10) ∷ []

-- what stands before an operand and after it, and how tightly the operand has to bind
abbrev pub before_of : Unary → List ℕ
before_of unary.Negate = codes "-"
before_of unary.Not = codes "!"
before_of (unary.Power n) = []
before_of unary.IsNull = codes "isNull("
before_of unary.IsNotNull = codes "isNotNull("
before_of unary.FirstNonNull = codes "firstNonNull("
before_of unary.Greatest = codes "greatest("
before_of unary.Least = codes "least("
before_of unary.HasValue = codes "d2:hasValue("
before_of unary.Zing = codes "d2:zing("
before_of unary.Oizp = codes "d2:oizp("

abbrev pub behind_of : Unary → List ℕ
behind_of unary.Negate = []
behind_of unary.Not = []
behind_of (unary.Power n) = codes "^" ++ exponent_text n
behind_of _ = codes ")"

abbrev pub inner_level_of : Unary → ℕ
inner_level_of unary.Negate = 6
inner_level_of unary.Not = 6
inner_level_of (unary.Power n) = 8
inner_level_of _ = 0

-- the same of two operands; comparisons form no chains, and other chains group to the left
abbrev pub opening_of : Binary → List ℕ
opening_of binary.DaysBetween = codes "d2:daysBetween("
opening_of _ = []

abbrev pub between_of : Binary → List ℕ
between_of binary.DaysBetween = codes ","
between_of operator = operator_text_of operator

abbrev pub closing_of : Binary → List ℕ
closing_of binary.DaysBetween = codes ")"
closing_of _ = []

abbrev pub left_level_of : Binary → ℕ
left_level_of binary.DaysBetween = 0
left_level_of operator = if nat_eq (level_of operator) 3 then 4 else level_of operator

abbrev pub right_level_of : Binary → ℕ
right_level_of binary.DaysBetween = 0
right_level_of operator = level_of operator + 1

abbrev pub in_brackets : Bool → List ℕ → List ℕ
in_brackets needed text = if needed then codes "(" ++ text ++ codes ")" else text

-- the text of a tree where it has to bind at least so tightly
abbrev pub text_from : ℕ → Shape → List ℕ
text_from least (Operand it) = leaf_text it
text_from least (One operator operand) =
    in_brackets (nat_lt (unary_level_of operator) least) (before_of operator ++ text_from (inner_level_of operator) operand ++ behind_of operator)
text_from least (Two operator left right) =
    in_brackets (nat_lt (binary_level_of operator) least)
    (opening_of operator ++ text_from (left_level_of operator) left ++ between_of operator ++ text_from (right_level_of operator) right ++ closing_of operator)
text_from least (Choice test one other) =
    codes "if(" ++ text_from 0 test ++ codes "," ++ text_from 0 one ++ codes "," ++ text_from 0 other ++ codes ")"

-- a text is that of a tree, as such a tree lies in memory
pub record IsPrintOf (tree : Syntax) (text : List ℕ) : Type 0 where
  pub shape : Shape
  pub same : syntax_of shape ≡ tree
  pub written : text ≡ text_from 0 shape
