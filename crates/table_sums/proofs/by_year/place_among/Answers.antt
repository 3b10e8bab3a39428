use Rattle.std.proofs.Common.{◌∙◌, ap}
use Rattle.table_sums.specs.Years.{is_year_if_any}
use Rattle.table_sums.proofs.ByYearLemmas.{none-passes}
use Rattle.table_sums.proofs.by_year.place_among.Goals as goal

pub returns-in-None-clause-none : goal.returns-in-None-clause-none
returns-in-None-clause-none g c =
    none-passes (λ year. g.T.Dated.is_in year c.args.member.now) c.args.years.now
    (λ year. c.year.ensures year ∙ ap (λ o. is_year_if_any o year) c.in-None.is)
