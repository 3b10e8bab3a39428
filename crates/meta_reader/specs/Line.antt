-- What is told of a fault.
use Rattle.std.specs.Prelude.{ℕ, List, [], Option, None, Some}
use Rattle.std.specs.Fmt.{decimal}
use lib.Chars.{codes}
use Rattle.meta_rules.specs.Faults.{rule_text}
use Rattle.meta_rules.specs.Limits.{limit_text}
use Rattle.meta_reader.specs.Text.{fault_text}
use Rattle.meta_reader.specs.declared.fault.MetaFault.{MetaFault}
use Rattle.meta_reader.specs.declared.fault.MetaFault.TheVariants as fault
use Rattle.meta_reader.specs.declared.fault.Which.{Which}
use Rattle.meta_reader.specs.declared.fault.Which.TheVariants as which

-- the object of a rule, or `none`
abbrev pub object_text : Option (List ℕ) → List ℕ
object_text None = codes "none"
object_text (Some uid) = uid

abbrev pub which_text : Which → List ℕ
which_text which.Bytes = codes "bytes"
which_text (which.Objects limit) = limit_text limit

-- the name of a fault and its details
unfoldable pub line_of : MetaFault → List ℕ
line_of fault.NotJson = fault_text (codes "NotJson") [] []
line_of (fault.Shape path) = fault_text (codes "Shape") path []
line_of (fault.Unknown uid path) = fault_text (codes "Unknown") uid path
line_of (fault.Twice uid) = fault_text (codes "Twice") uid []
line_of (fault.Expr uid at) = fault_text (codes "Expr") uid (decimal at)
line_of (fault.Rule uid rule) = fault_text (codes "Rule") (object_text uid) (rule_text rule)
line_of (fault.Limit limit) = fault_text (codes "Limit") (which_text limit) []
line_of fault.Memory = fault_text (codes "Memory") [] []
