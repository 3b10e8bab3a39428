use Rattle.std.proofs.Common.{◌≡◌, ◌∙◌, Some, ap, sym, subst, w32, of_z, to_z, to_z-of_z, FitsSigned}
use Rattle.std.specs.BTreeMap.{is_at}
use Rattle.std.specs.Map.{lookup}
use Rattle.std.specs.Ordering.{int_cmp}
use Rattle.std.proofs.lemmas.Bool.Decides.{Decides-int_eq}
use Rattle.table_build.specs.Left.{IsThere}
use Rattle.table_build.proofs.LeftLemmas.{there}
use Rattle.table_build.proofs.left.is_found.Goals as goal

pub returns-in-Some : goal.returns-in-Some
returns-in-Some c = λ is.
    let es = c.args.years.now.entries in
    let year = to_z w32 (of_z w32 c.args.year) in
    let fits : FitsSigned w32 c.args.year = c.ranges.year in
    let same : c.in-Some.found.now ≡ year = (Decides-int_eq c.in-Some.found.now year).0 (sym c.is_year.ensures ∙ is) in
    let found : lookup (is_at (int_cmp year)) es ≡ Some year = sym c.in-Some.ensures.value ∙ ap Some same in
    subst (λ y. IsThere es (Some y)) (to_z-of_z fits) (there es year c.len-count.ensures.ordered found)
