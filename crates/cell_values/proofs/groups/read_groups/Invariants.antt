use Rattle.std.proofs.Common.{◌≡◌, take}
use Rattle.std.specs.List.{filter}
use Rattle.cell_values.specs.Plans.{is_group_read}
use Rattle.cell_values.proofs.groups.read_groups.Given as goal

abbrev pub invariant-loop-group : goal.invariant-loop-group
invariant-loop-group l = l.kept.items ≡ filter (is_group_read l.meta l.seer.user l.operand.combo l.operand.attribute) (take l.group-index l.groups)
