use Rattle.std.proofs.Common.{◌∙◌, length, subst, sym, ap}
use Rattle.dh_metadata.specs.Members.{AreHolders, AreSortedCopies, EachAscends}
use Rattle.dh_metadata.specs.Sets.{element_lists, unit_lists, set_ids, by_id}
use Rattle.dh_metadata.proofs.MemberLemmas.{ascends, raw_holders}
use Rattle.dh_metadata.proofs.sets.set_lists.Goals as goal

pub holders-requires : goal.holders-requires
holders-requires c =
    subst EachAscends (sym c.deref.ensures.value)
    (ascends (element_lists c.as_slice-sets.result.now) c.in_ok-elements.elements.items c.in_ok-elements.ensures)

pub returns : goal.returns
returns c =
    let sets = c.args.records.now.data_sets in
    let elements : AreSortedCopies (element_lists sets) c.in_ok-elements.elements.items =
    subst (λ s. AreSortedCopies (element_lists s) c.in_ok-elements.elements.items) c.as_slice-sets.ensures c.in_ok-elements.ensures in
    let units : AreSortedCopies (unit_lists sets) c.in_ok-units.units.items =
    subst (λ s. AreSortedCopies (unit_lists s) c.in_ok-units.units.items) c.as_slice-sets.ensures c.in_ok-units.ensures in
    record {
      elements = elements;
      units = units;
      having =
          raw_holders (element_lists sets) c.in_ok-elements.elements.items elements (by_id (set_ids sets)) (length c.args.records.now.data_elements)
          c.in_ok-having.having.items
          (subst (λ l. AreHolders l (by_id (set_ids sets)) (length c.args.records.now.data_elements) c.in_ok-having.having.items) c.deref.ensures.value
          (subst (λ o. AreHolders c.deref.result.now o (length c.args.records.now.data_elements) c.in_ok-having.having.items)
          (c.deref-2.ensures.value ∙ c.in_ok-order.ensures ∙ ap (λ s. by_id (set_ids s)) c.as_slice-sets.ensures)
          (subst (λ s. AreHolders c.deref.result.now c.deref-2.result.now (length s) c.in_ok-having.having.items) c.as_slice.ensures c.in_ok-having.ensures)));
    }
