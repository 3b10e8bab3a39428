use Rattle.std.proofs.Common.{◌∙◌, [], ◌∷◌, ◌++◌, append-nil, map, get_or, ℤ, pos, refl, sym, ap, rules, w32, FitsSigned, to_z-of_z}
use Rattle.std.proofs.lemmas.List.{drop_all, get_or_default}
use Rattle.table_sums.proofs.MappedLemmas.{mapped-step}
use Rattle.table_build.specs.Slots.{no_part}
use Rattle.table_build.proofs.slots.slots_for.Goals as goal

pub loop-year-preserved : goal.loop-year-preserved
loop-year-preserved c =
    let years = c.args.years.now in
    let at = c.loop-year.year-index in
    let within = c.loop-year-test.true in
    let slots = c.loop-year.slots.items in
    let year : ℤ = get_or years at (pos 0) in
    let fits : FitsSigned w32 year = search rules in
    mapped-step no_part years at year (no_part year) (map no_part years) slots c.push.new.self.items within (get_or_default years at (pos 0) year within)
    refl (c.in_ok-push.ensures.items ∙ ap (λ y. slots ++ no_part y ∷ []) (to_z-of_z fits)) c.loop-year.invariant

pub returns : goal.returns
returns c =
    sym (c.loop-year.invariant
    ∙ ap (λ years. c.loop-year.slots.items ++ map no_part years) (drop_all c.loop-year.year-index c.args.years.now c.loop-year-test.false)
    ∙ append-nil c.loop-year.slots.items)
