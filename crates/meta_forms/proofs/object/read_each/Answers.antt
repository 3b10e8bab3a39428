use Rattle.std.proofs.Common.{◌∙◌, ◌+◌, ◌++◌, ◌∷◌, Ok, drop, sym, ap, rules}
use Rattle.std.proofs.lemmas.List.{drop_all, drop_more, append-nil}
use Rattle.dh_base.specs.Memory.{IsCause}
use Rattle.json_read.specs.Given.{path_of}
use Rattle.json_read.specs.Views.{data_of, items_data}
use Rattle.json_read.specs.Forms.{and_then}
use Rattle.meta_forms.specs.Objects.{named_form, objects_of}
use Rattle.meta_forms.proofs.ObjectLemmas.{objects-more, objects-cause}
use Rattle.meta_forms.proofs.object.read_each.Goals as goal

pub loop-value-preserved : goal.loop-value-preserved
loop-value-preserved g c =
    let form = named_form g.T.ReadObject.form g.T.ReadObject.made in
    let values = c.args.values.now in
    let i = c.loop-value.value-index in
    let place = c.loop-value.place in
    let all = c.loop-value.all.items in
    let rest = drop (i + 1) values in record {
      place = ap (λ n. n + 1) c.loop-value.invariant.place;
      rest =
          objects-more form place all c.in_ok-found.found (data_of c.value-item.result) (items_data rest) (objects_of form 0 (items_data values))
          (c.loop-value.invariant.rest
          ∙ ap (λ left. and_then (objects_of form place (items_data left)) (λ more. Ok (all ++ more))) (drop_more values i c.value-item.result c.loop-value-test.true)
          ∙ ap (λ value. and_then (objects_of form place (items_data (value ∷ rest))) (λ more. Ok (all ++ more))) (sym c.value-item.is))
          c.in_ok-found.ensures
          ∙ ap (λ kept. and_then (objects_of form (place + 1) (items_data rest)) (λ more. Ok (kept ++ more))) (sym c.in_ok-keep.ensures);
    }

pub returns-in_err-found : goal.returns-in_err-found
returns-in_err-found g c =
    let form = named_form g.T.ReadObject.form g.T.ReadObject.made in
    let values = c.args.values.now in
    let i = c.loop-value.value-index in
    let place = c.loop-value.place in
    let all = c.loop-value.all.items in
    let rest = drop (i + 1) values in
    let met : IsCause (objects_of form 0 (items_data values)) (path_of c.in_err-found.field-0.0) =
    objects-cause form place all (data_of c.value-item.result) (items_data rest) (objects_of form 0 (items_data values))
    (path_of c.in_err-found.field-0.0)
    (c.loop-value.invariant.rest
    ∙ ap (λ left. and_then (objects_of form place (items_data left)) (λ more. Ok (all ++ more))) (drop_more values i c.value-item.result c.loop-value-test.true)
    ∙ ap (λ value. and_then (objects_of form place (items_data (value ∷ rest))) (λ more. Ok (all ++ more))) (sym c.value-item.is))
    c.in_err-found.ensures in
    search rules

pub returns : goal.returns
returns g c =
    let form = named_form g.T.ReadObject.form g.T.ReadObject.made in
    let all = c.loop-value.all.items in
    c.loop-value.invariant.rest
    ∙ ap (λ left. and_then (objects_of form c.loop-value.place (items_data left)) (λ more. Ok (all ++ more)))
    (drop_all c.loop-value.value-index c.args.values.now c.loop-value-test.false)
    ∙ ap Ok (append-nil all ∙ sym c.from.ensures)
