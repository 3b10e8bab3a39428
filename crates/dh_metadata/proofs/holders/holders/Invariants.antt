use Rattle.std.proofs.Common.{take}
use Rattle.dh_metadata.specs.Members.{AreHolders}
use Rattle.dh_metadata.proofs.holders.holders.Given as goal

abbrev pub invariant-loop-place : goal.invariant-loop-place
invariant-loop-place l = AreHolders l.lists (take l.place-index l.order) l.count l.all.items
