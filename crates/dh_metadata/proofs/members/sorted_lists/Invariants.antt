use Rattle.std.proofs.Common.{map, take}
use Rattle.dh_metadata.specs.Members.{AreSortedCopies}
use Rattle.dh_metadata.proofs.members.sorted_lists.Given as goal

abbrev pub invariant-loop-object : goal.invariant-loop-object
invariant-loop-object g l = AreSortedCopies (map g.T.Listing.numbers (take l.object-index l.objects)) l.all.items
