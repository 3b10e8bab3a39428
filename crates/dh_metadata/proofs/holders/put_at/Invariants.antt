use Rattle.std.proofs.Common.{take}
use Rattle.dh_metadata.specs.Members.{IsPutAt}
use Rattle.dh_metadata.proofs.holders.put_at.Given as goal

abbrev pub invariant-loop-number : goal.invariant-loop-number
invariant-loop-number l = IsPutAt l.place (take l.number-index l.numbers) l.initial.all.items l.all.items
