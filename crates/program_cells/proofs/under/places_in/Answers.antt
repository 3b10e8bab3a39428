use Rattle.std.proofs.Common.{◌<◌, ◌∙◌, [], ◌∷◌, ◌++◌, ap, cond, length, map, rules, sym}
use Rattle.std.proofs.lemmas.List.{take_all}
use Rattle.program_cells.specs.Kept.{is_placed_in}
use Rattle.program_cells.specs.Places.{places_from}
use Rattle.program_cells.proofs.PlaceLemmas.{place-step}
use Rattle.program_cells.proofs.under.places_in.Goals as goal

pub loop-at-preserved : goal.loop-at-preserved
loop-at-preserved c =
    let within : c.loop-at.at < length c.args.events.now = search rules in
    place-step (λ event. event.now) (is_placed_in c.args.ranges.now) c.args.events.now c.loop-at.at c.index-events-at.result c.loop-at.own.items
    c.push_if.new.kept.items within c.index-events-at.is c.loop-at.invariant
    (c.in_ok-push_if.ensures
    ∙ ap (λ keeps. c.loop-at.own.items ++ cond keeps (c.loop-at.at ∷ []) [])
    (c.holds.ensures ∙ ap (λ event. is_placed_in c.args.ranges.now event.now) (sym c.index-events-at.is)))

pub returns : goal.returns
returns c =
    c.loop-at.invariant
    ∙ ap (λ events. places_from 0 (is_placed_in c.args.ranges.now) (map (λ event. event.now) events))
    (take_all c.loop-at.at c.args.events.now c.loop-at-test.false)
