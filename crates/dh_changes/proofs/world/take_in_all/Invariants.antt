use Rattle.std.proofs.Common.{reverse}
use Rattle.std.specs.Prelude.{vec_len}
use Rattle.dh_changes.specs.Holds.{contents, HoldSame}
use Rattle.dh_changes.specs.Index.{IsLinked, AllReady}
use Rattle.dh_changes.proofs.world.take_in_all.Given as goal

abbrev pub invariant-loop-said : goal.invariant-loop-said
invariant-loop-said l = record {
  same : HoldSame (contents l.index) (reverse l.waiting.items) (contents l.fn.index) (reverse l.fn.waiting.items);
  linked : IsLinked l.index;
  ready : AllReady l.index (reverse l.waiting.items);
}

abbrev pub decreases-loop-said : goal.decreases-loop-said
decreases-loop-said l = vec_len l.waiting
