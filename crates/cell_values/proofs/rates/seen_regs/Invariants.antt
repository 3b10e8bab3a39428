use Rattle.std.proofs.Common.{◌≡◌, take}
use Rattle.cell_values.specs.Seen.{seen_regs}
use Rattle.cell_values.proofs.rates.seen_regs.Given as goal

abbrev pub invariant-loop-reg : goal.invariant-loop-reg
invariant-loop-reg l = l.kept.items ≡ seen_regs l.meta l.seer.user (take l.reg-index l.regs)
