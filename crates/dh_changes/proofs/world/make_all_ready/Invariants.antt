use Rattle.std.proofs.Common.{[], take}
use Rattle.dh_changes.specs.Holds.{contents, HoldSame}
use Rattle.dh_changes.specs.Index.{IsLinked, AllReady}
use Rattle.dh_changes.proofs.world.make_all_ready.Given as goal

abbrev pub invariant-loop-said : goal.invariant-loop-said
invariant-loop-said l = record {
  same : HoldSame (contents l.index) [] (contents l.fn.index) [];
  linked : IsLinked l.index;
  ready : AllReady l.index (take l.said-index l.waiting);
}
