use Rattle.std.proofs.Common.{◌≡◌, ◌∙◌, [], sym, rules}
use Rattle.table_sums.proofs.PartLemmas.{no-position}
use Rattle.table_sums.proofs.range.rows_upto.Goals as goal

pub loop-position-init : goal.loop-position-init
loop-position-init g c = let none : c.new-found.result.items ≡ [] = search rules in none ∙ sym (no-position c.args.part.now c.args.rows.now)
