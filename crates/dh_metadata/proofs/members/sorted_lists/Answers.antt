use Rattle.std.proofs.Common.{◌+◌, map, take, subst, sym}
use Rattle.std.proofs.lemmas.List.{take_all}
use Rattle.dh_metadata.specs.Members.{IsSortedCopy, AreSortedCopies}
use Rattle.dh_metadata.proofs.SetLemmas.{copies_more}
use Rattle.dh_metadata.proofs.members.sorted_lists.Goals as goal

pub loop-object-preserved : goal.loop-object-preserved
loop-object-preserved g c =
    let i = c.loop-object.object-index in
    subst (λ l. AreSortedCopies (map g.T.Listing.numbers (take (i + 1) c.args.objects.now)) l) (sym c.in_ok-push.ensures.items)
    (copies_more g.T.Listing.numbers c.args.objects.now i c.object-item.result c.loop-object.all.items c.in_ok-sorted.field-0
    c.loop-object-test.true c.object-item.is c.loop-object.invariant
    (subst (λ n. IsSortedCopy n c.in_ok-sorted.field-0) c.numbers.ensures c.in_ok-sorted.ensures))

pub returns : goal.returns
returns g c =
    subst (λ objects. AreSortedCopies (map g.T.Listing.numbers objects) c.loop-object.all.items)
    (take_all c.loop-object.object-index c.args.objects.now c.loop-object-test.false) c.loop-object.invariant
