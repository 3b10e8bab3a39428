use Rattle.std.proofs.Common.{◌≡◌, take, drop, map}
use Rattle.serde_json.specs.View.{view, members_view}
use Rattle.query_answer.specs.Names.{unit_named, ids_of, put_names}
use Rattle.query_answer.proofs.names.add_units.Given as goal

abbrev pub invariant-loop-each : goal.invariant-loop-each
invariant-loop-each l = record {
  ids : map view l.ids.items ≡ ids_of (unit_named l.meta (take l.each-index l.units));
  names : put_names (unit_named l.meta (drop l.each-index l.units)) (members_view l.items.entries)
      ≡ put_names (unit_named l.meta l.units) (members_view l.initial.items.entries);
}
