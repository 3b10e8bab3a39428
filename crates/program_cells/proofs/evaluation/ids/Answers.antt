use Rattle.std.proofs.Common.{◌≡◌, ◌++◌, ℕ, Bool, List, Option, Some, map, rules, ◌∙◌, None, ap}
use Rattle.std.specs.Prelude.{option_map}
use Rattle.table_rows.specs.declared.event.EventRow.{EventRow}
use Rattle.program_cells.specs.Value.{ids_of, if_passing, collected}
use Rattle.program_cells.specs.Code.{passes_form}
use Rattle.program_cells.proofs.LoopLemmas.{subjects_step, subjects_start, subjects_end, subjects_done}
use Rattle.program_cells.proofs.evaluation.ids.Goals as goal

pub loop-subject-preserved : goal.loop-subject-preserved
loop-subject-preserved c =
    let passing : List EventRow → Option Bool = passes_form c.args.code.now.filter c.args.code.now.filter_items in
    let own : List EventRow → Option (List (List ℕ)) = λ subject. Some (ids_of c.args.measure subject) in
    let done : List (List ℕ) = c.loop-subject.ids.items in
    let taken : option_map (λ found. done ++ found) (if_passing (passing c.subject-item.result.now) (own c.subject-item.result.now))
    ≡ Some c.put_ids.new.ids.items = search rules in
    subjects_step (λ subject. subject.now) passing own c.args.subjects.now c.loop-subject.subject-index c.subject-item.result done c.put_ids.new.ids.items
    (collected passing own (map (λ subject. subject.now) c.args.subjects.now)) c.loop-subject-test.true c.subject-item.is c.loop-subject.invariant taken

pub loop-subject-init : goal.loop-subject-init
loop-subject-init c =
    let passing : List EventRow → Option Bool = passes_form c.args.code.now.filter c.args.code.now.filter_items in
    let own : List EventRow → Option (List (List ℕ)) = λ subject. Some (ids_of c.args.measure subject) in
    subjects_start c.in_ok-ids.ids.items (collected passing own (map (λ subject. subject.now) c.args.subjects.now)) c.in_ok-ids.ensures.items

pub returns-then-not-branch : goal.returns-then-not-branch
returns-then-not-branch c =
    let passing : List EventRow → Option Bool = passes_form c.args.code.now.filter c.args.code.now.filter_items in
    let own : List EventRow → Option (List (List ℕ)) = λ subject. Some (ids_of c.args.measure subject) in
    let done : List (List ℕ) = c.loop-subject.ids.items in
    let lacks : option_map (λ found. done ++ found) (if_passing (passing c.subject-item.result.now) (own c.subject-item.result.now)) ≡ None = search rules in
    subjects_end (λ subject. subject.now) passing own c.args.subjects.now c.loop-subject.subject-index c.subject-item.result done
    (collected passing own (map (λ subject. subject.now) c.args.subjects.now)) c.loop-subject-test.true c.subject-item.is c.loop-subject.invariant lacks

pub returns : goal.returns
returns c =
    let passing : List EventRow → Option Bool = passes_form c.args.code.now.filter c.args.code.now.filter_items in
    let own : List EventRow → Option (List (List ℕ)) = λ subject. Some (ids_of c.args.measure subject) in
    ap Some c.from.ensures
    ∙ subjects_done (λ subject. subject.now) passing own c.args.subjects.now c.loop-subject.subject-index c.loop-subject.ids.items
    (collected passing own (map (λ subject. subject.now) c.args.subjects.now)) c.loop-subject-test.false c.loop-subject.invariant
