use Rattle.std.proofs.Common.{◌≡◌, map, take}
use Rattle.org_tree.proofs.families.places.Given as goal

abbrev pub invariant-loop-row : goal.invariant-loop-row
invariant-loop-row l = l.places.items ≡ map (λ row. row.place) (take l.row-index l.rows)
