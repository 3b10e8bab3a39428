use Rattle.std.proofs.Common.{◌∙◌, ◌<◌, ◌≤◌, ℕ, Bool, List, [], None, sym, ap, subst, length, get_or}
use Rattle.std.specs.Cmp.Lexicographic.{texts_ties, nat_list_cmp_total, slice_cmp}
use Rattle.std.specs.Ordering.{nat_cmp}
use Rattle.std.specs.List.{filter, list_any}
use Rattle.std.specs.List.Sorted.{IsStrictlySortedBy}
use Rattle.std.proofs.lemmas.List.Filters.{dedup_is}
use Rattle.std.proofs.lemmas.List.Kept.{IsStrictlySortedBy-dedup}
use Rattle.std.proofs.lemmas.List.Sorted.{list_any-IsPermutation}
use Rattle.dh_changes.specs.Said.{same_id}
use Rattle.dh_changes.specs.Maps.{held}
use Rattle.dh_changes.specs.Hanging.{hangs_on}
use Rattle.dh_changes.proofs.HangingLemmas.{filter-more, filter-all, any-dedup}
use Rattle.dh_changes.proofs.OrderLemmas.{in_order-is}
use Rattle.dh_changes.proofs.hanging.live.Goals as goal

pub loop-id-preserved : goal.loop-id-preserved
loop-id-preserved g c =
    let i = c.loop-id.id-index in
    let x = c.id-item.result in
    filter-more (λ id. hangs_on (g.V.Hangs.parent (held same_id None c.args.objects.now id)) c.args.parent) (held same_id [] c.args.children.now c.args.parent)
    c.loop-id.found.items c.keep_if.new.found.items i x c.hangs_on-hangs.result
    (subst (λ xs. i < length xs) c.children_of-id-items.ensures c.loop-id-test.true)
    (c.id-item.is ∙ ap (λ xs. get_or xs i x) c.children_of-id-items.ensures)
    c.loop-id.invariant
    (c.hangs_on-hangs.ensures ∙ ap (λ p. hangs_on p c.args.parent) (c.parent_of.ensures ∙ ap g.V.Hangs.parent c.look.ensures))
    c.in_ok-keep_if.ensures

pub returns : goal.returns
returns g c =
    let i = c.loop-id.id-index in
    let test : List ℕ → Bool = λ id. hangs_on (g.V.Hangs.parent (held same_id None c.args.objects.now id)) c.args.parent in
    let noted = held same_id [] c.args.children.now c.args.parent in
    let all =
    filter-all test noted c.loop-id.found.items i (subst (λ xs. length xs ≤ i) c.children_of-id-items.ensures c.loop-id-test.false) c.loop-id.invariant in
    let kept = c.from.ensures ∙ dedup_is same_id c.sort_unstable.new.self.items c.dedup.new.self.items c.dedup.ensures.filtered in
    in_order-is c.from.result (filter test noted)
    (subst (IsStrictlySortedBy (slice_cmp nat_cmp)) (sym kept)
    (IsStrictlySortedBy-dedup nat_list_cmp_total texts_ties c.sort_unstable.new.self.items c.sort_unstable.ensures.sorted))
    (λ id. ap (list_any (λ other. same_id id other)) kept ∙ any-dedup id c.sort_unstable.new.self.items
    ∙ sym (list_any-IsPermutation (λ other. same_id id other) c.loop-id.found.items c.sort_unstable.new.self.items c.sort_unstable.ensures.permutation)
    ∙ ap (list_any (λ other. same_id id other)) all)
