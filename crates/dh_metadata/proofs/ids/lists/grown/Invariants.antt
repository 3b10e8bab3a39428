use Rattle.std.proofs.Common.{◌≡◌, ◌++◌, map, take}
use Rattle.dh_metadata.proofs.ids.lists.grown.Given as goal

-- what was there, and what the objects so far added
abbrev pub invariant-loop-object : goal.invariant-loop-object
invariant-loop-object g l = l.all.items ≡ l.fn.ids.items ++ (l.built_in ++ map g.T.HasId.id_of (take l.object-index l.objects))
