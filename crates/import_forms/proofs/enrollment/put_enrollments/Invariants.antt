use Rattle.std.proofs.Common.{◌≡◌, ◌++◌, map}
use Rattle.std.specs.List.{flat_map}
use Rattle.std.specs.Vec.Iter.{into_iter_items}
use Rattle.import_forms.proofs.enrollment.put_enrollments.Given as goal

abbrev pub invariant-loop-form : goal.invariant-loop-form
invariant-loop-form l = record {
  own : l.fn.enrollments ++ map (λ form. form.own) l.fn.forms ≡ l.enrollments ++ map (λ form. form.own) (into_iter_items l.form-iterator);
  events : l.fn.events ++ flat_map (λ form. form.events) l.fn.forms ≡ l.events ++ flat_map (λ form. form.events) (into_iter_items l.form-iterator);
}
