use Rattle.std.proofs.Common.{◌≡◌, ◌++◌, ◌∷◌, [], map, rules}
use Rattle.table_sums.specs.Columns.{number_of}
use Rattle.table_sums.proofs.MappedLemmas.{mapped-step}
use Rattle.table_sums.proofs.rows.numbers_of.Goals as goal

pub loop-row-preserved : goal.loop-row-preserved
loop-row-preserved c =
    let is : c.unwrap_or.result ≡ number_of c.row-item.result = search rules in
    let put : c.push.new.self.items ≡ c.loop-row.numbers.items ++ c.unwrap_or.result ∷ [] = search rules in
    mapped-step number_of c.args.rows.now c.loop-row.row-index c.row-item.result c.unwrap_or.result (map number_of c.args.rows.now)
    c.loop-row.numbers.items c.push.new.self.items c.loop-row-test.true c.row-item.is is put c.loop-row.invariant
