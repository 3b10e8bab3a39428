use Rattle.std.proofs.Common.{◌≡◌, ◌++◌, map}
use Rattle.std.specs.List.{flat_map}
use Rattle.std.specs.Vec.Iter.{into_iter_items}
use Rattle.import_forms.proofs.entity.put_entities.Given as goal

abbrev pub invariant-loop-form : goal.invariant-loop-form
invariant-loop-form l = record {
  own : l.fn.entities ++ map (λ form. form.own) l.fn.forms ≡ l.entities ++ map (λ form. form.own) (into_iter_items l.form-iterator);
  enrollments : l.fn.enrollments ++ flat_map (λ form. form.enrollments) l.fn.forms
      ≡ l.enrollments ++ flat_map (λ form. form.enrollments) (into_iter_items l.form-iterator);
}
