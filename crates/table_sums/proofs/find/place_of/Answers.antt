use Rattle.std.proofs.Common.{◌∙◌, FitsSigned, w32, to_z, of_z, to_z-of_z, ap, sym, rules}
use Rattle.std.specs.List.{list_any}
use Rattle.std.specs.Ordering.{int_eq}
use Rattle.table_sums.proofs.SearchLemmas.{year-missing}
use Rattle.table_sums.proofs.find.place_of.Goals as goal

pub returns-in-Err-clause-none : goal.returns-in-Err-clause-none
returns-in-Err-clause-none c =
    let fits : FitsSigned w32 c.args.year = search rules in
    ap (λ y. list_any (int_eq y) c.args.years.now) (sym (to_z-of_z fits))
    ∙ year-missing c.args.years.now (to_z w32 (of_z w32 c.args.year)) c.in-Err.field-0 c.requires c.in-Err.ensures.position
