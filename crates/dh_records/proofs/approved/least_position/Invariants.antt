use Rattle.std.proofs.Common.{◌≡◌, drop}
use Rattle.std.specs.List.{position_from}
use Rattle.dh_changes.specs.World.{facts}
use Rattle.dh_records.specs.Approved.{is_approved_at, least_position}
use Rattle.dh_records.proofs.approved.least_position.Given as goal

abbrev pub invariant-loop-level : goal.invariant-loop-level
invariant-loop-level l = record {
  at : l.at ≡ l.level-index;
  none : least_position (facts l.world) l.meta l.unit l.scope l.levels
      ≡ position_from (is_approved_at (facts l.world) l.meta l.unit l.scope) l.level-index (drop l.level-index l.levels);
}
