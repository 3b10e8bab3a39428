use Rattle.std.proofs.Common.{◌∙◌, ap, map}
use Rattle.std.specs.Arc.{arc_value}
use Rattle.dh_changes.specs.World.{facts}
use Rattle.table_rows.specs.Rows.{key_of}
use Rattle.table_rows.specs.Order.{key_cmp}
use Rattle.table_build.specs.Log.{writes_of}
use Rattle.table_build.specs.Ordered.{in_order}
use Rattle.latest_build.specs.Held.{places_last, rows_last}
use Rattle.latest_build.proofs.ToldLemmas.{places-list, rows-told}
use Rattle.latest_build.proofs.held.held_rows.Goals as goal

pub returns-clause-places : goal.returns-clause-places
returns-clause-places c =
    c.in_ok-rows.ensures.places ∙ ap places_last c.deref.ensures.value ∙ c.in_ok-held.ensures.places
    ∙ places-list c.args.meta.now (facts c.args.world.now) (writes_of (map arc_value c.args.last.now)) c.args.keys.now c.args.named c.requires.named

pub returns-clause-rows : goal.returns-clause-rows
returns-clause-rows c =
    λ before held.
    c.in_ok-rows.ensures.rows ∙ ap (λ held. in_order key_cmp key_of (rows_last held)) c.deref.ensures.value
    ∙ ap (in_order key_cmp key_of) c.in_ok-held.ensures.rows
    ∙ rows-told c.args.meta.now (facts c.args.world.now) (record { is_tree = c.requires.tree; numbers = c.requires.numbers }) before
    (writes_of (map arc_value c.args.last.now)) held c.args.keys.now c.args.named c.requires.named
