use Rattle.std.proofs.Common.{◌≡◌, ◌∙◌, ◌<◌, [], length, subst, ap, sym, get_or}
use Rattle.std.proofs.lemmas.List.{length-map}
use Rattle.dh_metadata.specs.declared.records.DataSet.{DataSet}
use Rattle.dh_metadata.specs.Linked.{AreBelow}
use Rattle.dh_metadata.specs.Sets.{element_lists, set_ids, by_id, sets_with}
use Rattle.dh_metadata.proofs.HolderLemmas.{holders_below}
use Rattle.dh_metadata.proofs.metadata.Metadata.sets_with.Goals as goal

pub returns-clause-in_range : goal.returns-clause-in_range
returns-clause-in_range c =
    let r = c.self.inside.records in
    let within : c.args.element < length r.data_elements = subst (λ s. c.args.element < length s.data_elements) (sym c.self.view_is) c.requires in
    let value : c.list_at.result.now ≡ sets_with r c.args.element =
    c.list_at.ensures ∙ ap (λ l. get_or l c.args.element []) c.as_slice.ensures.value ∙ c.self.invariant.sets_with.each c.args.element within in
    subst (λ s. AreBelow (length s.data_sets) c.list_at.result.now) c.self.view_is
    (subst (λ l. AreBelow (length r.data_sets) l) (sym value)
    (subst (λ n. AreBelow n (sets_with r c.args.element)) (length-map r.data_sets (λ (set : DataSet). set.data_set_elements))
    (holders_below (element_lists r.data_sets) (by_id (set_ids r.data_sets)) c.args.element)))
