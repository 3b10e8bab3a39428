use Rattle.std.proofs.Common.{◌≡◌, ◌++◌, map, Ok}
use Rattle.std.specs.Vec.Iter.{into_iter_items}
use Rattle.json_read.specs.Views.{data_of}
use Rattle.import_forms.specs.Pairs.{attributes_of}
use Rattle.import_forms.proofs.pair.attributes_of.Given as goal

abbrev pub invariant-loop-each : goal.invariant-loop-each
invariant-loop-each l = attributes_of (data_of l.value) ≡ Ok (l.pairs.items ++ map (λ each. each.pair) (into_iter_items l.each-iterator))
