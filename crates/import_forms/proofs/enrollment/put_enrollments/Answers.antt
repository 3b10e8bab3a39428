use Rattle.std.proofs.Common.{◌≡◌, List, ◌++◌, length, map, refl, arith}
use Rattle.std.specs.List.{flat_map}
use Rattle.std.specs.Vec.Iter.{into_iter_items}
use Rattle.import_forms.specs.declared.enrollment.EnrollmentForm.{EnrollmentForm}
use Rattle.import_forms.specs.declared.enrollment.BundleEnrollment.{BundleEnrollment}
use Rattle.import_forms.specs.declared.event.BundleEvent.{BundleEvent}
use Rattle.import_forms.proofs.OwnedLemmas.{made-more, joined-more, made-all, joined-all}
use Rattle.import_forms.proofs.enrollment.put_enrollments.Goals as goal

abbrev own_of : EnrollmentForm → BundleEnrollment
own_of form = form.own

abbrev inner_of : EnrollmentForm → List BundleEvent
inner_of form = form.events

pub loop-form-preserved : goal.loop-form-preserved
loop-form-preserved c =
    let left = into_iter_items c.loop-form.form-iterator in
    let rest = into_iter_items c.next.new.self in
    let form = c.in-Some.form in record {
      own =
          made-more own_of (c.args.enrollments.now ++ map own_of c.args.forms) c.loop-form.enrollments c.push.new.self left rest form form.own
          c.loop-form.invariant.own c.in-Some.ensures.steps.0 refl c.in_ok-push.ensures.ok;
      events =
          joined-more inner_of (c.args.events.now ++ flat_map inner_of c.args.forms) c.loop-form.events c.append.new.list left rest form
          c.loop-form.invariant.events c.in-Some.ensures.steps.0 c.in_ok-append.ensures;
    }

pub returns : goal.returns
returns c =
    let none : length (into_iter_items c.loop-form.form-iterator) ≡ 0 = omega (arith, c.loop-form.form-iterator.rest.ok.0, c.in-None.ensures.steps.0) in
    let left = into_iter_items c.loop-form.form-iterator in record {
      own = made-all own_of (c.args.enrollments.now ++ map own_of c.args.forms) c.loop-form.enrollments left c.loop-form.invariant.own none;
      events =
          joined-all inner_of (c.args.events.now ++ flat_map inner_of c.args.forms) c.loop-form.events left c.loop-form.invariant.events none;
    }
