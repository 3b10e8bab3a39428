use Rattle.std.proofs.Common.{◌≡◌, ◌∙◌, map, ap, subst, w32, of_z, to_z, FitsSigned, to_z-of_z}
use Rattle.std.specs.Prelude.{IfOk}
use Rattle.std.specs.Arc.{arc_value}
use Rattle.table_rows.specs.Store.{contents_in}
use Rattle.table_sums.specs.YearParts.{part_of}
use Rattle.table_build.specs.Log.{writes_of}
use Rattle.table_build.specs.Listed.{listed_in}
use Rattle.table_build.proofs.by_year.build_part.Goals as goal

pub returns : goal.returns
returns c =
    let fits : FitsSigned w32 c.args.year = c.ranges.year in
    subst (λ p. IfOk c.part_of_year-part.result (λ part. part ≡ p))
    (ap (λ cs. part_of (contents_in (listed_in c.args.meta.now (writes_of cs))) (to_z w32 (of_z w32 c.args.year))) c.in_ok-reading.ensures
    ∙ ap (part_of (contents_in (listed_in c.args.meta.now (writes_of (map arc_value c.args.changes.now))))) (to_z-of_z fits))
    c.part_of_year-part.ensures
