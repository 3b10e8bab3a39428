use Rattle.std.proofs.Common.{◌≡◌, ◌∙◌, ◌≤◌, subst, sym, ap, length, true, w32, FitsSigned, to_z-of_z}
use Rattle.std.specs.List.{list_all}
use Rattle.table_sums.specs.YearParts.{YearPart, part_of}
use Rattle.table_build.specs.Log.{is_of_days}
use Rattle.table_build.specs.Log as rows
use Rattle.table_build.specs.Listed.{listed_in}
use Rattle.table_rows.specs.Store.{contents_in}
use Rattle.engine.specs.Tables.{tables_of}
use Rattle.engine.proofs.Days.{all-of-days, writes-are}
use Rattle.engine.proofs.tables.build_year.Goals as goal

pub part_of_year-requires : goal.part_of_year-requires
part_of_year-requires c =
    let e = sym (writes-are c.args.reading.now) in
    record {
      few = subst (λ x. length x ≤ 4194304) e c.requires.few;
      days = subst (λ x. list_all is_of_days x ≡ true) e (all-of-days _ c.requires.fits);
    }

pub returns-clause-value : goal.returns-clause-value
unfolding tables_of
returns-clause-value c =
    let fits : FitsSigned w32 c.args.year = c.ranges.year in
    c.in_ok-part.ensures
    ∙ ap (λ y. part_of (contents_in (listed_in c.args.meta.now (rows.writes_of c.args.reading.now))) y) (to_z-of_z fits)
    ∙ ap (λ ws. part_of (contents_in (listed_in c.args.meta.now ws)) c.args.year) (writes-are c.args.reading.now)

pub returns-clause-own : goal.returns-clause-own
unfolding tables_of
returns-clause-own c =
    let fits : FitsSigned w32 c.args.year = c.ranges.year in
    let is =
    c.in_ok-part.ensures
    ∙ ap (λ y. part_of (contents_in (listed_in c.args.meta.now (rows.writes_of c.args.reading.now))) y) (to_z-of_z fits)
    ∙ ap (λ ws. part_of (contents_in (listed_in c.args.meta.now ws)) c.args.year) (writes-are c.args.reading.now) in
    is ∙ ap (part_of (tables_of c.args.meta.now c.args.reading.now)) (sym (ap (λ (part : YearPart). part.year) is))
