use Rattle.std.proofs.Common.{◌∙◌, List, FitsSigned, w32, to_z, of_z, to_z-of_z, ap, rules}
use Rattle.table_rows.specs.declared.row.Row.{Row}
use Rattle.table_rows.specs.Rows.{wanted_rows}
use Rattle.table_rows.specs.Sums.{sum_of_rows}
use Rattle.table_sums.proofs.YearPartLemmas.{found-in, none-in, nothing-sums, years-rise-in}
use Rattle.table_sums.proofs.find.sum_in.Goals as goal

pub place_of-requires : goal.place_of-requires
place_of-requires c = years-rise-in c.args.parts.now c.args.years.now c.requires.parts c.requires.years

pub returns-in-Some-clause-sum : goal.returns-in-Some-clause-sum
returns-in-Some-clause-sum c =
    let fits : FitsSigned w32 c.year.result = search rules in
    c.range_sum.ensures.sum
    ∙ ap (λ (rows : List Row). sum_of_rows (wanted_rows c.args.group.now c.args.need c.args.from c.args.to rows)) c.store.ensures.rows
    ∙ ap sum_of_rows (found-in c.args.parts.now c.args.years.now c.index-parts-at.result c.in-Some.at (to_z w32 (of_z w32 c.year.result)) c.args.group.now
    c.args.need c.args.from c.args.to c.requires.parts c.requires.years (to_z-of_z fits ∙ c.year.ensures) c.in-Some.ensures.found c.in-Some.ensures.year
    c.index-parts-at.is)

pub returns-in-None-clause-sum : goal.returns-in-None-clause-sum
returns-in-None-clause-sum c =
    let fits : FitsSigned w32 c.year.result = search rules in
    c.none.ensures
    ∙ nothing-sums _ (none-in c.args.parts.now c.args.years.now (to_z w32 (of_z w32 c.year.result)) c.args.group.now c.args.need c.args.from c.args.to
    c.requires.parts c.requires.years (to_z-of_z fits ∙ c.year.ensures) c.in-None.ensures.none)
