use Rattle.std.proofs.Common.{◌≡◌, drop, map}
use Rattle.std.specs.Ordering.{int_cmp}
use Rattle.table_build.specs.Ordered.{put_all}
use Rattle.table_build.specs.Years.{reg_year}
use Rattle.table_build.proofs.years.put_regs.Given as goal

abbrev pub invariant-loop-reg : goal.invariant-loop-reg
invariant-loop-reg l =
    put_all int_cmp (λ year. year) l.fn.years.entries (map reg_year l.regs)
    ≡ put_all int_cmp (λ year. year) l.years.entries (map reg_year (drop l.reg-index l.regs))
