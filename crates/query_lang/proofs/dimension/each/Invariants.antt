use Rattle.std.proofs.Common.{◌≡◌, ◌++◌, drop, option_map}
use Rattle.query_lang.specs.Items.{each}
use Rattle.query_lang.proofs.dimension.each.Given as goal

abbrev pub invariant-loop-text : goal.invariant-loop-text
invariant-loop-text g l = each g.T.ReadItem.form l.texts ≡ option_map (λ more. l.items.items ++ more) (each g.T.ReadItem.form (drop l.text-index l.texts))
