use Rattle.std.proofs.Common.{◌≡◌, ◌∙◌, ap, subst, length}
use Rattle.std.specs.Prelude.{IfOk}
use Rattle.std.specs.Arc.{arc_value}
use Rattle.std.proofs.lemmas.List.{length-map}
use Rattle.table_rows.specs.Store.{contents_in}
use Rattle.table_sums.specs.YearParts.{together, years_in}
use Rattle.table_build.specs.Log.{writes_of}
use Rattle.table_build.specs.Listed.{listed_in}
use Rattle.table_build.proofs.by_year.build.Goals as goal

pub returns-clause-contents : goal.returns-clause-contents
returns-clause-contents c =
    subst (λ cs. IfOk c.tables-tables.result (λ tables. together tables.parts ≡ contents_in (listed_in c.args.meta.now (writes_of cs)))) c.in_ok-reading.ensures
    c.tables-tables.ensures.contents

pub returns-clause-years : goal.returns-clause-years
returns-clause-years c =
    subst (λ cs. IfOk c.tables-tables.result (λ tables. years_in tables.parts ≡ (listed_in c.args.meta.now (writes_of cs)).years)) c.in_ok-reading.ensures
    c.tables-tables.ensures.years

pub returns-clause-base_cut : goal.returns-clause-base_cut
returns-clause-base_cut c =
    subst (λ n. IfOk c.tables-tables.result (λ tables. tables.base_cut ≡ n)) (ap length c.in_ok-reading.ensures ∙ length-map c.args.changes.now arc_value)
    c.tables-tables.ensures.base_cut
