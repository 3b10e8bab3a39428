use Rattle.std.proofs.Common.{◌≡◌, ◌++◌, drop, Ok}
use Rattle.json_read.specs.Views.{items_data}
use Rattle.json_read.specs.Forms.{and_then}
use Rattle.meta_forms.specs.Objects.{named_form, objects_of}
use Rattle.meta_forms.proofs.object.read_each.Given as goal

-- the whole list is what is read and what is left to read
abbrev pub invariant-loop-value : goal.invariant-loop-value
invariant-loop-value g l = record {
  place : l.place ≡ l.value-index;
  rest : objects_of (named_form g.T.ReadObject.form g.T.ReadObject.made) 0 (items_data l.values)
      ≡ and_then (objects_of (named_form g.T.ReadObject.form g.T.ReadObject.made) l.place (items_data (drop l.value-index l.values)))
      (λ more. Ok (l.all.items ++ more));
}
