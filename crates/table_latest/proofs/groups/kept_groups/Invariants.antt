use Rattle.std.proofs.Common.{◌≡◌, take}
use Rattle.std.specs.List.{filter}
use Rattle.table_latest.specs.Latest.{is_kept_group, untouched_rows}
use Rattle.table_latest.proofs.groups.kept_groups.Given as goal

abbrev pub invariant-loop-group : goal.invariant-loop-group
invariant-loop-group g l =
    l.kept.items ≡ filter (is_kept_group (untouched_rows l.places (g.S.RowStore.rows l.base)) l.now) (take l.group-index l.groups)
