use Rattle.std.proofs.Common.{◌≡◌, take}
use Rattle.std.specs.List.{filter}
use Rattle.table_rows.specs.Events.{is_reg_of}
use Rattle.table_rows.proofs.plain.regs_of.Given as goal

abbrev pub invariant-loop-reg : goal.invariant-loop-reg
invariant-loop-reg l = l.found.items ≡ filter (is_reg_of l.set) (take l.reg-index l.regs)
