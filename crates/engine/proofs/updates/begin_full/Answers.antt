use Rattle.std.proofs.Common.{◌∙◌, ◌+◌, length, map, refl, sym, ap, subst, arith}
use Rattle.std.specs.Arc.{arc_value}
use Rattle.std.proofs.lemmas.List.{length-map}
use Rattle.dh_base.specs.declared.plain.CutKind.TheVariants.{Full}
use Rattle.std.specs.Prelude.{option_map}
use Rattle.engine.specs.declared.updates.Shown.{Shown}
use Rattle.engine.specs.Seen.{state_of, part_in}
use Rattle.dh_changes.specs.Facts.{facts_in}
use Rattle.table_build.specs.Listed.{listed_in}
use Rattle.table_build.specs.Slots.{AreSlots}
use Rattle.engine.proofs.Days.{writes-are}
use Rattle.engine.proofs.Orders.{begun_cuts}
use Rattle.engine.proofs.SlotLemmas.{cut_given}
use Rattle.engine.proofs.StandLemmas.{full_begun, years-are}
use Rattle.engine.proofs.updates.begin_full.Goals as goal

pub plan_of-requires : goal.plan_of-requires
plan_of-requires c = c.requires.world ∙ ap facts_in (sym (writes-are (map arc_value c.args.changes.now)))

pub returns-clause-step : goal.returns-clause-step
returns-clause-step c =
    let log = map arc_value c.args.changes.now in
    begun_cuts c.args.limits.now (state_of log c.args.shown.now) (state_of log c.stage_full-ticket.new.shown) Full c.stage_full-ticket.result
    (length c.args.changes.now) c.requires.free c.stage_full-ticket.ensures.ticket (sym (length-map c.args.changes.now arc_value))
    (ap (state_of log) c.stage_full-ticket.ensures.new)

pub returns-clause-given : goal.returns-clause-given
returns-clause-given c =
    cut_given c.args.meta.now (state_of (map arc_value c.args.changes.now) c.args.shown.now) Full _ refl
    (c.in-Ok-plan_of.ensures.years ∙ years-are c.args.meta.now (map arc_value c.args.changes.now)) c.in-Ok.ensures c.requires.few c.requires.fits

pub returns-clause-shows : goal.returns-clause-shows
returns-clause-shows c =
    let all = length-map c.args.changes.now arc_value in
    let within = c.requires.order.published in
    let below = c.requires.order.base_cut in
    full_begun c.args.meta.now (map arc_value c.args.changes.now) c.args.shown.now c.stage_full-ticket.new.shown (c.args.shown.now.ticket + 1)
    (length c.args.changes.now) _ c.stage_full-ticket.ensures.new (omega arith) all
    (subst (λ ws. AreSlots (listed_in c.args.meta.now ws) c.in-Ok-plan_of.field-0.slots.items) (writes-are (map arc_value c.args.changes.now))
    c.in-Ok-plan_of.ensures.slots) c.requires.shows

pub returns-clause-part : goal.returns-clause-part
returns-clause-part c = ap (λ (s : Shown). option_map part_in s.latest) c.stage_full-ticket.ensures.new
