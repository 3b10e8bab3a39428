use Rattle.std.proofs.Common.{◌≡◌, ◌==◌, drop}
use Rattle.std.specs.List.{position_from}
use Rattle.web_routes.proofs.approval.place_of.Given as goal

abbrev pub invariant-loop-level : goal.invariant-loop-level
invariant-loop-level l = record {
  at : l.at ≡ l.level-index;
  none : position_from (λ level. level == l.own) 0 l.levels ≡ position_from (λ level. level == l.own) l.level-index (drop l.level-index l.levels);
}
