use Rattle.std.proofs.Common.{◌≡◌, ◌∙◌, List, FitsSigned, w32, to_z, of_z, to_z-of_z, sym, ap, subst, rules}
use Rattle.std.specs.Prelude.{IfOk}
use Rattle.table_rows.specs.declared.row.Row.{Row}
use Rattle.table_rows.specs.Rows.{wanted_rows}
use Rattle.table_sums.proofs.YearPartLemmas.{found-in, none-in, years-rise-in}
use Rattle.table_sums.proofs.find.rows_in.Goals as goal

pub place_of-requires : goal.place_of-requires
place_of-requires c = years-rise-in c.args.parts.now c.args.years.now c.requires.parts c.requires.years

pub returns-in-Some : goal.returns-in-Some
returns-in-Some c =
    let fits : FitsSigned w32 c.year.result = search rules in
    subst (λ (rows : List Row). IfOk c.rows_of.result (λ found. found ≡ rows))
    (ap (λ (rows : List Row). wanted_rows c.args.group.now c.args.need c.args.from c.args.to rows) c.store.ensures.rows
    ∙ found-in c.args.parts.now c.args.years.now c.index-parts-at.result c.in-Some.at (to_z w32 (of_z w32 c.year.result)) c.args.group.now c.args.need
    c.args.from c.args.to c.requires.parts c.requires.years (to_z-of_z fits ∙ c.year.ensures) c.in-Some.ensures.found c.in-Some.ensures.year
    c.index-parts-at.is)
    c.rows_of.ensures.rows

pub returns-in-None : goal.returns-in-None
returns-in-None c =
    let fits : FitsSigned w32 c.year.result = search rules in
    c.new.ensures
    ∙ sym (none-in c.args.parts.now c.args.years.now (to_z w32 (of_z w32 c.year.result)) c.args.group.now c.args.need c.args.from c.args.to
    c.requires.parts c.requires.years (to_z-of_z fits ∙ c.year.ensures) c.in-None.ensures.none)
