use Rattle.std.proofs.Common.{◌≡◌, ◌∙◌, [], map, sym, ap, subst, length, rules}
use Rattle.std.specs.Arc.{arc_value}
use Rattle.std.specs.List.{filter_map}
use Rattle.std.specs.Map.{values_of}
use Rattle.std.proofs.lemmas.Fn.{always_returns_same}
use Rattle.org_tree.specs.Units.{IsTree}
use Rattle.dh_changes.specs.World.{facts}
use Rattle.table_build.specs.Log.{writes_of}
use Rattle.table_build.specs.Placed.{Placed, put_placed, rows_last, rows_placed}
use Rattle.table_build.proofs.KeyLemmas.{StandsTree}
use Rattle.table_build.proofs.PlacedLemmas.{sorted-rows, left-placed, left-own-places}
use Rattle.table_build.proofs.placed.rows_left.Goals as goal

pub returns-clause-rows : goal.returns-clause-rows
unfolding rows_placed
returns-clause-rows c =
    let stands : StandsTree c.args.meta.now (facts c.args.world.now) = record {
      is_tree = subst IsTree c.tree_of.ensures.value c.count-units.ensures.tree;
      numbers = ap length (sym c.tree_of.ensures.value) ∙ c.tree_of.ensures.numbers;
    } in
    left-placed c.args.meta.now (facts c.args.world.now) c.args.year.now (writes_of (map arc_value c.args.changes.now)) c.in_ok-rows.rows.items stands
    c.requires
    (c.in_ok-rows.ensures ∙ ap rows_last c.deref.ensures.value
    ∙ sym (sorted-rows c.in_ok-placed.placed.items c.sort_by_key.new.self.items
    (c.in_ok-sort_by_key.ensures.sorted (λ (p : Placed). p.place) (always_returns_same _ (λ a r. r ≡ a.0.now.place) _ (λ a r q k. search rules)))
    (c.in_ok-sort_by_key.ensures.stable (λ (p : Placed). p.place) (always_returns_same _ (λ a r. r ≡ a.0.now.place) _ (λ a r q k. search rules))))
    ∙ ap (λ put. filter_map (λ row. row) (values_of (put_placed [] put))) c.in_ok-placed.ensures)

pub returns-clause-own_places : goal.returns-clause-own_places
returns-clause-own_places c =
    let stands : StandsTree c.args.meta.now (facts c.args.world.now) = record {
      is_tree = subst IsTree c.tree_of.ensures.value c.count-units.ensures.tree;
      numbers = ap length (sym c.tree_of.ensures.value) ∙ c.tree_of.ensures.numbers;
    } in
    left-own-places c.args.meta.now (facts c.args.world.now) c.args.year.now (writes_of (map arc_value c.args.changes.now)) c.in_ok-rows.rows.items stands
    (returns-clause-rows c)
