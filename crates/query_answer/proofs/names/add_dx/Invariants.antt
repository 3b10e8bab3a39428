use Rattle.std.proofs.Common.{◌≡◌, take, drop, map}
use Rattle.serde_json.specs.View.{view, members_view}
use Rattle.query_answer.specs.Names.{dx_named, ids_of, put_names}
use Rattle.query_answer.proofs.names.add_dx.Given as goal

abbrev pub invariant-loop-each : goal.invariant-loop-each
invariant-loop-each l = record {
  ids : map view l.ids.items ≡ ids_of (dx_named l.meta (take l.each-index l.dx));
  names : put_names (dx_named l.meta (drop l.each-index l.dx)) (members_view l.items.entries)
      ≡ put_names (dx_named l.meta l.dx) (members_view l.initial.items.entries);
}
