use Rattle.std.proofs.Common.{◌≡◌, ◌∙◌, ◌++◌, [], ap, map, rules}
use Rattle.std.specs.Arc.{arc_value}
use Rattle.std.specs.List.{filter_map}
use Rattle.std.proofs.lemmas.Fn.{always_returns_same}
use Rattle.dh_changes.specs.World.{facts}
use Rattle.table_build.specs.Log.{writes_of}
use Rattle.latest_build.specs.Held.{held_at, place_in, places_held, rows_held}
use Rattle.latest_build.specs.Told.{held_by_write}
use Rattle.latest_build.proofs.HeldLemmas.{sorted-places, sorted-rows}
use Rattle.latest_build.proofs.held.held_in_order.Goals as goal

pub returns-clause-places : goal.returns-clause-places
returns-clause-places c =
    let told = filter_map (held_by_write c.args.meta.now (facts c.args.world.now)) (writes_of (map arc_value c.args.last.now)) in
    let more = filter_map (held_at c.args.meta.now (facts c.args.world.now)) c.split_at.result.1.now in
    let empty : c.reserve.new.self.items ≡ [] = search rules in
    let listed = c.in_ok-put_keys.ensures
    ∙ ap (λ l. l ++ more) (c.in_ok-put_changes.ensures.put ∙ ap (λ l. l ++ told) empty)
    ∙ ap (λ l. told ++ filter_map (held_at c.args.meta.now (facts c.args.world.now)) l) c.split_at.ensures.back in
    sorted-places c.put_keys.new.held.items c.sort_by_key.new.self.items
    (c.in_ok-sort_by_key.ensures.sorted place_in (always_returns_same _ (λ a r. r ≡ a.0.now.place) _ (λ a r q k. search rules)))
    (c.in_ok-sort_by_key.ensures.stable place_in (always_returns_same _ (λ a r. r ≡ a.0.now.place) _ (λ a r q k. search rules)))
    ∙ ap places_held listed

pub returns-clause-rows : goal.returns-clause-rows
returns-clause-rows c =
    let told = filter_map (held_by_write c.args.meta.now (facts c.args.world.now)) (writes_of (map arc_value c.args.last.now)) in
    let more = filter_map (held_at c.args.meta.now (facts c.args.world.now)) c.split_at.result.1.now in
    let empty : c.reserve.new.self.items ≡ [] = search rules in
    let listed = c.in_ok-put_keys.ensures
    ∙ ap (λ l. l ++ more) (c.in_ok-put_changes.ensures.put ∙ ap (λ l. l ++ told) empty)
    ∙ ap (λ l. told ++ filter_map (held_at c.args.meta.now (facts c.args.world.now)) l) c.split_at.ensures.back in
    sorted-rows c.put_keys.new.held.items c.sort_by_key.new.self.items
    (c.in_ok-sort_by_key.ensures.sorted place_in (always_returns_same _ (λ a r. r ≡ a.0.now.place) _ (λ a r q k. search rules)))
    (c.in_ok-sort_by_key.ensures.stable place_in (always_returns_same _ (λ a r. r ≡ a.0.now.place) _ (λ a r q k. search rules)))
    ∙ ap rows_held listed
