use Rattle.std.proofs.Common.{◌≡◌, drop, map}
use Rattle.std.specs.Ordering.{int_cmp}
use Rattle.table_build.specs.Ordered.{put_all}
use Rattle.table_build.specs.Years.{row_year}
use Rattle.table_build.proofs.years.put_rows.Given as goal

abbrev pub invariant-loop-row : goal.invariant-loop-row
invariant-loop-row l =
    put_all int_cmp (λ year. year) l.fn.years.entries (map row_year l.rows)
    ≡ put_all int_cmp (λ year. year) l.years.entries (map row_year (drop l.row-index l.rows))
