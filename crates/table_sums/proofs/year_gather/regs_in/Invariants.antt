use Rattle.table_sums.proofs.YearPartLemmas.{RegsUpto}
use Rattle.table_sums.proofs.year_gather.regs_in.Given as goal

abbrev pub invariant-loop-part : goal.invariant-loop-part
invariant-loop-part l = RegsUpto l.parts l.set l.part-index l.regs.items
