use Rattle.std.proofs.Common.{◌≡◌, drop}
use Rattle.std.specs.List.{list_any}
use Rattle.org_tree.specs.Units.{is_under}
use Rattle.value_import.proofs.rights.is_captured.Given as goal

abbrev pub invariant-loop-capture : goal.invariant-loop-capture
invariant-loop-capture l = list_any (is_under l.tree l.unit) l.captures ≡ list_any (is_under l.tree l.unit) (drop l.capture-index l.captures)
