use Rattle.std.proofs.Common.{◌∙◌, ◌<◌, [], length, subst, ap, sym, get_or}
use Rattle.dh_metadata.specs.declared.records.DataSet.{DataSet}
use Rattle.dh_metadata.specs.Sets.{has_element}
use Rattle.dh_metadata.proofs.SetLemmas.{searched_list, searched_has}
use Rattle.dh_metadata.proofs.metadata.Metadata.has_element.Goals as goal

pub has-requires : goal.has-requires
has-requires c =
    let within : c.args.set < length c.self.inside.records.data_sets = subst (λ s. c.args.set < length s.data_sets) (sym c.self.view_is) c.requires in
    searched_list (λ (set : DataSet). set.data_set_elements) c.self.inside.records.data_sets c.self.inside.set_elements.items c.list_at.result.now c.args.set
    c.self.invariant.set_elements within (c.list_at.ensures ∙ ap (λ l. get_or l c.args.set []) c.as_slice.ensures.value)

pub returns : goal.returns
returns c =
    let within : c.args.set < length c.self.inside.records.data_sets = subst (λ s. c.args.set < length s.data_sets) (sym c.self.view_is) c.requires in
    c.has.ensures
    ∙ searched_has (λ (set : DataSet). set.data_set_elements) c.self.inside.records.data_sets c.self.inside.set_elements.items c.list_at.result.now c.args.set
    c.args.element
    c.self.invariant.set_elements within (c.list_at.ensures ∙ ap (λ l. get_or l c.args.set []) c.as_slice.ensures.value)
    ∙ ap (λ s. has_element s c.args.set c.args.element) c.self.view_is
