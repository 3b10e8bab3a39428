use Rattle.std.proofs.Common.{◌≡◌, ◌++◌, ◌∷◌, [], rules}
use Rattle.table_sums.specs.YearParts.{YearPart, years_in}
use Rattle.table_sums.proofs.MappedLemmas.{mapped-step}
use Rattle.table_sums.proofs.tables.years_of.Goals as goal

pub loop-part-preserved : goal.loop-part-preserved
loop-part-preserved c =
    let put : c.push.new.self.items ≡ c.loop-part.years.items ++ c.year.result ∷ [] = search rules in
    mapped-step (λ (part : YearPart). part.year) c.args.parts.now c.loop-part.part-index c.part-item.result c.year.result (years_in c.args.parts.now)
    c.loop-part.years.items c.push.new.self.items c.loop-part-test.true c.part-item.is c.year.ensures put c.loop-part.invariant
