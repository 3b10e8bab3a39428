-- Forms whose lists of arguments aren't long.
use Rattle.std.proofs.Common.{ℕ, ◌+◌, ◌≤◌, arith}
use Rattle.expr_grammar.specs.Grammar.{Form, Number, Item, Bracket, Power, Sign, Chain, Arguments, If, Condition, DaysBetween, Apply}

-- how many arguments a list has
abbrev pub argument_count : Form → ℕ
argument_count (Arguments first b last) = argument_count first + 1
argument_count F = 1

pub count_some : (F : Form) → 1 ≤ argument_count F
count_some (Arguments first b last) = omega arith
count_some F = omega arith

-- each list has at most 4,096 arguments
abbrev pub Few : Form → Type 0
Few (Number b digits decimals) = Unit {0}
Few (Item b f word) = Unit {0}
Few (Bracket b inner c) = Few inner
Few (Power atom b c digits) = Few atom
Few (Sign b sign operand) = Few operand
Few (Chain left b op right) = Few left × Few right
Few (Arguments first b last) = (argument_count first + 1 ≤ 4096) × Few first × Few last
Few (If b c test d one e other f) = Few test × Few one × Few other
Few (Condition b c d test e f one g other h) = Few test × Few one × Few other
Few (DaysBetween b c one d other e) = Few one × Few other
Few (Apply b name c arguments d) = Few arguments
