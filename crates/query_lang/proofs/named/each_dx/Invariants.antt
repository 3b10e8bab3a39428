use Rattle.std.proofs.Common.{◌≡◌, drop}
use Rattle.query_lang.specs.Each.{each_of, beyond}
use Rattle.query_lang.specs.Named.{dx_of}
use Rattle.query_lang.proofs.named.each_dx.Given as goal

abbrev pub invariant-loop-item : goal.invariant-loop-item
invariant-loop-item l = each_of (dx_of l.meta l.user) l.items ≡ beyond l.all.items (each_of (dx_of l.meta l.user) (drop l.item-index l.items))
