use Rattle.std.proofs.Common.{◌∙◌, ◌≤◌, None, length, map, take, sym, ap, subst}
use Rattle.std.specs.Prelude.{max, option_map}
use Rattle.std.specs.Arc.{arc_value}
use Rattle.dh_base.specs.declared.plain.CutKind.TheVariants.{Full}
use Rattle.engine.specs.declared.updates.Shown.{Shown}
use Rattle.engine.specs.Machine.{published_by, with_staged}
use Rattle.engine.specs.Seen.{FitSlots, state_of, staged_latest, part_in}
use Rattle.engine.specs.Stands.{Stands}
use Rattle.engine.specs.Tables.{Served}
use Rattle.engine.proofs.StandLemmas.{full-there, full_published, laid_full, ended_full, without_slots, full-owns, full-kind}
use Rattle.engine.proofs.Orders.{swaps_of}
use Rattle.engine.proofs.swaps.swap_full.Goals as goal

pub tables_after_full-requires-clause-within : goal.tables_after_full-requires-clause-within
tables_after_full-requires-clause-within c =
    subst (λ n. max c.args.shown.now.published n ≤ length c.args.changes.now) (sym c.number_in-number.ensures) c.requires.within

pub tables_after_full-requires-clause-base : goal.tables_after_full-requires-clause-base
tables_after_full-requires-clause-base c =
    let shown = c.args.shown.now in
    subst (λ n. shown.base_cut ≤ n) (sym c.number_in-number.ensures)
    (full-there c.args.meta.now (map arc_value c.args.changes.now) c.args.ticket shown.base_cut shown.full shown.slots c.requires.begun
    c.requires.shows.full c.requires.shows.slots).0

pub tables_after_full-requires-clause-slots : goal.tables_after_full-requires-clause-slots
tables_after_full-requires-clause-slots c =
    let shown = c.args.shown.now in
    let log = map arc_value c.args.changes.now in
    subst (λ n. FitSlots c.args.meta.now (take n log) shown.slots) (sym c.number_in-number.ensures)
    (full-there c.args.meta.now log c.args.ticket shown.base_cut shown.full shown.slots c.requires.begun c.requires.shows.full c.requires.shows.slots).1

pub returns-clause-step : goal.returns-clause-step
returns-clause-step c =
    let log = map arc_value c.args.changes.now in
    let shown = c.args.shown.now in
    let number = c.number_in-number.result in
    let published = c.max-published.result in
    swaps_of (state_of log shown) (state_of log c.publish_full.new.shown) c.args.ticket published number Full
    (full-owns c.args.ticket shown.full (staged_latest shown.latest) c.requires.begun) (full-kind c.args.ticket shown.full c.requires.begun)
    c.number_in-number.ensures c.max-published.ensures
    (ap (state_of log) c.publish_full.ensures.same
    ∙ ap (λ (s : Shown). with_staged (published_by (state_of log s) Full number published) Full None) c.tables_after_full.ensures.same)

pub returns-clause-shows : goal.returns-clause-shows
returns-clause-shows c =
    let log = map arc_value c.args.changes.now in
    let meta = c.args.meta.now in
    let shown = c.args.shown.now in
    let number = c.number_in-number.result in
    let below : shown.base_cut ≤ number = subst (λ n. shown.base_cut ≤ n) (sym c.number_in-number.ensures)
    (full-there meta log c.args.ticket shown.base_cut shown.full shown.slots c.requires.begun c.requires.shows.full c.requires.shows.slots).0 in
    full_published meta log c.tables_after_full.new.shown c.publish_full.new.shown c.max-published.result number c.publish_full.ensures.same
    (subst (λ (s : Shown). s.base_cut ≤ number) (sym c.tables_after_full.ensures.same) below)
    (subst (Stands meta log number c.max-published.result) (sym c.publish_full.ensures.tables)
    (subst (λ n. Stands meta log number n (arc_value c.in_ok-tables.tables)) (sym c.max-published.ensures) c.in_ok-tables.ensures.stands))
    (without_slots meta log shown c.tables_after_full.new.shown c.tables_after_full.ensures.same c.requires.shows)

pub returns-clause-laid : goal.returns-clause-laid
returns-clause-laid c =
    let log = map arc_value c.args.changes.now in
    let shown = c.args.shown.now in
    laid_full (state_of log shown) c.args.ticket c.number_in-number.result c.max-published.result _ (arc_value shown.tables) _ c.requires.begun
    c.number_in-number.ensures (ap (λ (tables : Served). tables.latest) c.publish_full.ensures.tables ∙ c.in_ok-tables.ensures.latest)

pub returns-clause-part : goal.returns-clause-part
returns-clause-part c =
    let log = map arc_value c.args.changes.now in
    let shown = c.args.shown.now in
    ended_full (state_of log shown) c.args.ticket c.max-published.result (option_map part_in shown.latest) _ c.requires.begun
    (ap (λ (s : Shown). option_map part_in s.latest) c.publish_full.ensures.same
    ∙ ap (λ (s : Shown). option_map part_in s.latest) c.tables_after_full.ensures.same)
