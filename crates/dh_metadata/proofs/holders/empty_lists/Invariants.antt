use Rattle.std.proofs.Common.{[]}
use Rattle.dh_metadata.specs.Members.{AreHolders}
use Rattle.dh_metadata.proofs.holders.empty_lists.Given as goal

abbrev pub invariant-loop : goal.invariant-loop
invariant-loop l = AreHolders [] [] l.counter l.all.items
