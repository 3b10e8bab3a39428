-- The causes of faults. Running out of memory has none.
use Rattle.std.specs.Prelude.{ℕ, Option, Some, None}
use Rattle.expr_lang.specs.declared.fault.ExprFault.{ExprFault}
use Rattle.expr_lang.specs.declared.fault.ExprFault.TheVariants as fault
use Rattle.expr_lang.specs.declared.fault.ReadFault.{ReadFault}
use Rattle.expr_lang.specs.declared.fault.ReadFault.TheVariants as unread

abbrev pub cause_of : ExprFault → Option ExprFault
cause_of fault.Memory = None
cause_of found = Some found

-- where a text can't be read on
abbrev pub stop_of : ReadFault → Option ℕ
stop_of (unread.Syntax at) = Some at
stop_of unread.Memory = None
