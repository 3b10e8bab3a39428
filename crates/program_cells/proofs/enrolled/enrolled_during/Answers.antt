use Rattle.std.proofs.Common.{◌≡◌, ◌∙◌, true, false, map, sym, ap}
use Rattle.std.specs.List.{filter}
use Rattle.std.proofs.lemmas.List.{take_all}
use Rattle.program_cells.specs.Cells.{is_enrolled_on}
use Rattle.program_cells.specs.Enrollments.{first_is}
use Rattle.program_cells.proofs.LoopLemmas.{lent_more, lent_no_more}
use Rattle.program_cells.proofs.enrolled.enrolled_during.Goals.{then-began_on+in_ok-push, else-began_on}
use Rattle.program_cells.proofs.enrolled.enrolled_during.Goals as goal

pub loop-enrollment-init : goal.loop-enrollment-init
loop-enrollment-init c = ap (map (λ subject. subject.now)) c.new-kept.ensures.items

pub loop-enrollment-preserved : goal.loop-enrollment-preserved
loop-enrollment-preserved c =
    let began = first_is (is_enrolled_on c.args.periods.now) in
    let x = c.enrollment-item.result in
    let at = c.loop-enrollment.enrollment-index in
    let found = c.loop-enrollment.kept.items in
    elim c.if-began_on.branch [
      | then-began_on+in_ok-push w ↦
          let here : began x ≡ true = ap began (sym c.as_slice-subject.ensures) ∙ sym c.began_on.ensures ∙ w.if-began_on.true in
          ap (λ kept. map (λ subject. subject.now) kept.items) w.kept-is
          ∙ lent_more (λ subject. subject.now) began c.args.enrollments.now found w.push.new.self.items at x c.as_slice-subject.result
          c.loop-enrollment-test.true c.enrollment-item.is c.loop-enrollment.invariant w.in_ok-push.ensures.items c.as_slice-subject.ensures here
      | else-began_on w ↦
          let here : began x ≡ false = ap began (sym c.as_slice-subject.ensures) ∙ sym c.began_on.ensures ∙ w.if-began_on.false in
          ap (λ kept. map (λ subject. subject.now) kept.items) w.kept-is
          ∙ lent_no_more (λ subject. subject.now) began c.args.enrollments.now found at x c.loop-enrollment-test.true c.enrollment-item.is
          c.loop-enrollment.invariant here
    ]

pub returns : goal.returns
returns c =
    c.loop-enrollment.invariant
    ∙ ap (filter (first_is (is_enrolled_on c.args.periods.now)))
    (take_all c.loop-enrollment.enrollment-index c.args.enrollments.now c.loop-enrollment-test.false)
