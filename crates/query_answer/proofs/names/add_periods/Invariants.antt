use Rattle.std.proofs.Common.{◌≡◌, take, drop, map}
use Rattle.serde_json.specs.View.{view, members_view}
use Rattle.query_answer.specs.Names.{period_named, ids_of, put_names}
use Rattle.query_answer.proofs.names.add_periods.Given as goal

abbrev pub invariant-loop-each : goal.invariant-loop-each
invariant-loop-each l = record {
  ids : map view l.ids.items ≡ ids_of (period_named (take l.each-index l.periods));
  names : put_names (period_named (drop l.each-index l.periods)) (members_view l.items.entries)
      ≡ put_names (period_named l.periods) (members_view l.initial.items.entries);
}
