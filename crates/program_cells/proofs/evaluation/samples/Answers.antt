use Rattle.std.proofs.Common.{◌∙◌, ◌++◌, Bool, List, Option, Some, map, sym, ap}
use Rattle.std.specs.Prelude.{option_map}
use Rattle.std.specs.Option.{option_to_list}
use Rattle.dh_base.specs.Fractions.{Fraction}
use Rattle.table_rows.specs.declared.event.EventRow.{EventRow}
use Rattle.program_cells.specs.Value.{sample_by, collected}
use Rattle.program_cells.specs.Code.{form_value, passes_form}
use Rattle.program_cells.proofs.LoopLemmas.{subjects_step, subjects_start, subjects_end, subjects_done}
use Rattle.program_cells.proofs.evaluation.samples.Goals as goal

pub loop-subject-preserved : goal.loop-subject-preserved
loop-subject-preserved c =
    let passing : List EventRow → Option Bool = passes_form c.args.code.now.filter c.args.code.now.filter_items in
    let own : List EventRow → Option (List Fraction) = λ subject. sample_by (form_value c.args.form.now c.args.code.now.value_items subject) in
    let done : List Fraction = c.loop-subject.samples.items in
    subjects_step (λ subject. subject.now) passing own c.args.subjects.now c.loop-subject.subject-index c.subject-item.result done c.put.new.list.items
    (collected passing own (map (λ subject. subject.now) c.args.subjects.now)) c.loop-subject-test.true c.subject-item.is c.loop-subject.invariant
    (ap (option_map (λ found. done ++ found)) (sym c.in_ok-found.ensures ∙ ap (option_map option_to_list) c.in-Some.is) ∙ ap Some (sym c.in_ok-put.ensures))

pub loop-subject-init : goal.loop-subject-init
loop-subject-init c =
    let passing : List EventRow → Option Bool = passes_form c.args.code.now.filter c.args.code.now.filter_items in
    let own : List EventRow → Option (List Fraction) = λ subject. sample_by (form_value c.args.form.now c.args.code.now.value_items subject) in
    subjects_start c.in_ok-samples.samples.items (collected passing own (map (λ subject. subject.now) c.args.subjects.now)) c.in_ok-samples.ensures.items

pub returns : goal.returns
returns c =
    let passing : List EventRow → Option Bool = passes_form c.args.code.now.filter c.args.code.now.filter_items in
    let own : List EventRow → Option (List Fraction) = λ subject. sample_by (form_value c.args.form.now c.args.code.now.value_items subject) in
    ap Some c.from.ensures
    ∙ subjects_done (λ subject. subject.now) passing own c.args.subjects.now c.loop-subject.subject-index c.loop-subject.samples.items
    (collected passing own (map (λ subject. subject.now) c.args.subjects.now)) c.loop-subject-test.false c.loop-subject.invariant

pub returns-in_default : goal.returns-in_default
returns-in_default c =
    let passing : List EventRow → Option Bool = passes_form c.args.code.now.filter c.args.code.now.filter_items in
    let own : List EventRow → Option (List Fraction) = λ subject. sample_by (form_value c.args.form.now c.args.code.now.value_items subject) in
    let done : List Fraction = c.loop-subject.samples.items in
    subjects_end (λ subject. subject.now) passing own c.args.subjects.now c.loop-subject.subject-index c.subject-item.result done
    (collected passing own (map (λ subject. subject.now) c.args.subjects.now)) c.loop-subject-test.true c.subject-item.is c.loop-subject.invariant
    (ap (option_map (λ found. done ++ found)) (sym c.in_ok-found.ensures ∙ ap (option_map option_to_list) c.in_default.is))
