-- The body that tells violations.
use Rattle.std.specs.Prelude.{ℕ, List, map, Option, Some, None, codes}
use Rattle.std.specs.Str.Lossy.{utf8_lossy}
use Rattle.serde_json.specs.Data.{Data, null, string, array, object, member, no_members}
use Rattle.serde_json.specs.View.{items_of}
use Rattle.dh_base.specs.Decimals.{printed}
use Rattle.dh_base.specs.Fractions.{Fraction}
use Rattle.dh_metadata.specs.declared.held.Records.{Records}
use Rattle.validation.specs.declared.outcome.Violation.{Violation}
use Rattle.validation.specs.Check.{id_of}

abbrev pub text_of : List ℕ → Data
text_of bytes = string (utf8_lossy bytes)

-- a side's value with up to six decimals, null where it is missing
abbrev pub side_of : Option Fraction → Data
side_of None = null
side_of (Some value) = text_of (printed value 6)

unfoldable pub violation_with : Data → Data → Data → Data
violation_with id left right = object
    (member (codes "id") id (member (codes "leftsideValue") left (member (codes "rightsideValue") right no_members)))

abbrev pub violation_of : Records → Violation → Data
violation_of r violation = violation_with (text_of (id_of r violation.rule)) (side_of violation.left) (side_of violation.right)

abbrev pub violations_of : Records → List Violation → List Data
violations_of r violations = map (violation_of r) violations

unfoldable pub body_of : Records → List Violation → Data
body_of r violations = object (member (codes "validationRuleViolations") (array (items_of (violations_of r violations))) no_members)
