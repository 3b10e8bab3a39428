use Rattle.std.proofs.Common.{◌≡◌, ◌∙◌, map, ap, sym, subst}
use Rattle.std.specs.List.{filter}
use Rattle.program_cells.specs.Cells.{alone}
use Rattle.program_cells.specs.Enrollments.{first_is}
use Rattle.program_cells.specs.Kept.{is_placed_in, subjects_in}
use Rattle.expr_eval.specs.declared.indicator.PiCode.{PiCode}
use Rattle.program_cells.specs.Code.{measure_in, IsCodeOf}
use Rattle.program_cells.specs.declared.measure.Measure.TheVariants as measure
use Rattle.program_cells.proofs.CellLemmas.{cell_meant, sampled_meant}
use Rattle.program_cells.proofs.plan.value.Goals as goal

pub returns-in-Events : goal.returns-in-Events
returns-in-Events c r user n periods all is subjects units not =
    let asked = c.args.units.now.asked in
    cell_meant r user n periods c.args.units.now all c.args.plan.now c.args.subjects.now (map alone (filter (is_placed_in asked) c.in-Events.events))
    c.value_of_events.result is subjects units not (ap (subjects_in asked) (sym c.in-Events.is))
    (λ indicator code. c.value_of_events.ensures r indicator code)

pub returns-in-Samples : goal.returns-in-Samples
returns-in-Samples c r user n periods all is subjects units not =
    sampled_meant r user n periods c.args.units.now all c.args.plan.now c.args.subjects.now c.in-Samples.sampled c.value_within.result is subjects
    units not c.in-Samples.is
    (λ indicator code same formula. c.value_within.ensures r indicator (subst (λ form. IsCodeOf r indicator form) (sym same) code)
    (subst (λ (form : PiCode). measure_in form.value ≡ measure.Formula) (sym same) formula))

pub returns-in-Enrollments : goal.returns-in-Enrollments
returns-in-Enrollments c r user n periods all is subjects units not =
    let asked = c.args.units.now.asked in
    cell_meant r user n periods c.args.units.now all c.args.plan.now c.args.subjects.now
    (filter (first_is (is_placed_in asked)) (map (λ subject. subject.now) c.as_slice.result.now))
    c.value_of_enrollments.result is subjects units not
    (ap (λ list. filter (first_is (is_placed_in asked)) (map (λ subject. subject.now) list)) c.as_slice.ensures.value
    ∙ ap (subjects_in asked) (sym c.in-Enrollments.is))
    (λ indicator code. c.value_of_enrollments.ensures r indicator code)
