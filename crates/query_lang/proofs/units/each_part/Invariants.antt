use Rattle.std.proofs.Common.{◌≡◌, drop}
use Rattle.query_lang.specs.Each.{each_of, beyond}
use Rattle.query_lang.specs.Units.{part_of}
use Rattle.query_lang.proofs.units.each_part.Given as goal

abbrev pub invariant-loop-item : goal.invariant-loop-item
invariant-loop-item l = each_of (part_of l.meta l.user) l.items ≡ beyond l.all.items (each_of (part_of l.meta l.user) (drop l.item-index l.items))
