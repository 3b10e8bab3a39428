-- What holds of a fault of syntax.
use Rattle.std.specs.Prelude.{ℕ}
use Rattle.expr_lang.specs.declared.fault.ExprFault.{ExprFault}
use Rattle.expr_lang.specs.declared.fault.ExprFault.TheVariants as fault

-- what is said of the place of a fault of syntax, and of no other fault
abbrev pub IfSyntax : ExprFault → (ℕ → Type 0) → Type 0
IfSyntax (fault.Syntax at) P = P at
IfSyntax _ P = Unit {0}
