use Rattle.std.proofs.Common.{◌≡◌, ◌==◌, ◌&&◌, false, take}
use Rattle.std.specs.List.{list_any}
use Rattle.dh_sharing.specs.Access.{has}
use Rattle.dh_sharing.proofs.rule.group_may.Given as goal

abbrev pub invariant-loop-entry : goal.invariant-loop-entry
invariant-loop-entry l = list_any (λ entry. list_any (λ group. group == entry.0) l.own && has entry.1 l.right) (take l.entry-index l.groups) ≡ false
