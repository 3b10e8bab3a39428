use Rattle.std.proofs.Common.{◌∙◌, ap, map}
use Rattle.std.specs.List.{filter}
use Rattle.std.proofs.lemmas.List.{take_all}
use Rattle.program_cells.specs.Enrollments.{first_is}
use Rattle.program_cells.specs.Kept.{is_placed_in}
use Rattle.program_cells.proofs.LoopLemmas.{kept_more}
use Rattle.program_cells.proofs.under.enrollments_in.Goals as goal

pub loop-enrollment-preserved : goal.loop-enrollment-preserved
loop-enrollment-preserved c =
    kept_more (λ subject. subject.now) (first_is (is_placed_in c.args.ranges.now)) c.args.enrollments.now c.loop-enrollment.kept.items
    c.push_if.new.kept.items c.loop-enrollment.enrollment-index c.enrollment-item.result c.lies_in.result c.loop-enrollment-test.true
    c.enrollment-item.is c.loop-enrollment.invariant c.in_ok-push_if.ensures c.lies_in.ensures

pub returns : goal.returns
returns c =
    c.loop-enrollment.invariant
    ∙ ap (λ subjects. filter (first_is (is_placed_in c.args.ranges.now)) (map (λ subject. subject.now) subjects))
    (take_all c.loop-enrollment.enrollment-index c.args.enrollments.now c.loop-enrollment-test.false)
