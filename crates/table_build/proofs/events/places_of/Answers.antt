use Rattle.std.proofs.Common.{◌∙◌, [], sym, ap}
use Rattle.std.specs.List.{filter_map}
use Rattle.dh_changes.specs.World.{facts}
use Rattle.table_build.specs.Ordered.{put_all}
use Rattle.table_build.specs.Events.{place_cmp, place_of}
use Rattle.table_build.proofs.LoopLemmas.{put-more, put-no-more}
use Rattle.table_build.proofs.events.places_of.Goals.{in-Some+in_ok-insert, in_default}
use Rattle.table_build.proofs.events.places_of.Goals as goal

pub loop-id-preserved : goal.loop-id-preserved
loop-id-preserved c =
    let find = place_of (facts c.args.world.now) in
    let list = c.args.ids.now in
    let at = c.loop-id.id-index in
    let x = c.id-item.result in
    let old = c.loop-id.map.entries in
    let new = c.match-place_of.map.entries in
    let whole = put_all place_cmp (λ place. place) [] (filter_map find list) in
    elim c.match-place_of.branch [
      | in-Some+in_ok-insert w ↦
          put-more place_cmp (λ place. place) find list at x c.loop-id-test.true c.id-item.is w.in-Some.place old new whole
          (sym c.place_of.ensures ∙ w.in-Some.is)
          (ap (λ m. m.entries) w.map-is ∙ w.in_ok-insert.ensures.entries)
          c.loop-id.invariant
      | in_default w ↦
          put-no-more place_cmp (λ place. place) find list at x c.loop-id-test.true c.id-item.is old new whole (sym c.place_of.ensures ∙ w.in_default.is)
          (ap (λ m. m.entries) w.map-is) c.loop-id.invariant
    ]
