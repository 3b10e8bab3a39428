use Rattle.std.proofs.Common.{◌≡◌, take}
use Rattle.std.specs.List.{filter}
use Rattle.dh_changes.specs.World.{facts}
use Rattle.latest_build.specs.Touches.{has_position}
use Rattle.latest_build.proofs.decided.decided_among.Given as goal

abbrev pub invariant-loop-key : goal.invariant-loop-key
invariant-loop-key l = l.decided.items ≡ filter (has_position l.meta (facts l.world)) (take l.key-index l.keys)
