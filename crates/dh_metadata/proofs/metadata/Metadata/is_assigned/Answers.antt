use Rattle.std.proofs.Common.{◌∙◌, ◌<◌, [], length, subst, ap, sym, get_or}
use Rattle.dh_metadata.specs.declared.records.DataSet.{DataSet}
use Rattle.dh_metadata.specs.Sets.{is_assigned}
use Rattle.dh_metadata.proofs.SetLemmas.{searched_list, searched_has}
use Rattle.dh_metadata.proofs.metadata.Metadata.is_assigned.Goals as goal

pub has-requires : goal.has-requires
has-requires c =
    let within : c.args.set < length c.self.inside.records.data_sets = subst (λ s. c.args.set < length s.data_sets) (sym c.self.view_is) c.requires in
    searched_list (λ (set : DataSet). set.organisation_units) c.self.inside.records.data_sets c.self.inside.set_units.items c.list_at.result.now c.args.set
    c.self.invariant.set_units within (c.list_at.ensures ∙ ap (λ l. get_or l c.args.set []) c.as_slice.ensures.value)

pub returns : goal.returns
returns c =
    let within : c.args.set < length c.self.inside.records.data_sets = subst (λ s. c.args.set < length s.data_sets) (sym c.self.view_is) c.requires in
    c.has.ensures
    ∙ searched_has (λ (set : DataSet). set.organisation_units) c.self.inside.records.data_sets c.self.inside.set_units.items c.list_at.result.now c.args.set
    c.args.unit
    c.self.invariant.set_units within (c.list_at.ensures ∙ ap (λ l. get_or l c.args.set []) c.as_slice.ensures.value)
    ∙ ap (λ s. is_assigned s c.args.set c.args.unit) c.self.view_is
