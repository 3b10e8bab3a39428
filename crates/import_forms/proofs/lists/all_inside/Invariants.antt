use Rattle.std.proofs.Common.{◌≡◌, ◌++◌, map}
use Rattle.std.specs.Vec.Iter.{into_iter_items}
use Rattle.import_forms.proofs.lists.all_inside.Given as goal

abbrev pub invariant-loop-object : goal.invariant-loop-object
invariant-loop-object g l =
    map (g.T.Inner.inside l.id) l.fn.objects ≡ l.filled.items ++ map (g.T.Inner.inside l.id) (into_iter_items l.object-iterator)
