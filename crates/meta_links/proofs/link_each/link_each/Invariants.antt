use Rattle.std.proofs.Common.{◌≡◌, ◌++◌, map, take, drop}
use Rattle.std.specs.List.{flat_map}
use Rattle.meta_links.specs.Told.{after}
use Rattle.meta_links.proofs.link_each.link_each.Given as goal

-- what was looked up so far, and what is left
abbrev pub invariant-loop-object : goal.invariant-loop-object
invariant-loop-object g l = record {
  all : l.all.items ≡ l.fn.built_in.items ++ map (g.T.Link.held l.ids) (take l.object-index l.objects);
  rest : after l.ids l.fn.unknown (flat_map g.T.Link.references l.objects)
      ≡ after l.ids l.unknown (flat_map g.T.Link.references (drop l.object-index l.objects));
}
