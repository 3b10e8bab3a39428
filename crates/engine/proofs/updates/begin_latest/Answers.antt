use Rattle.std.proofs.Common.{◌∙◌, length, map, take, refl, sym, ap, subst, arith}
use Rattle.std.specs.Arc.{arc_value}
use Rattle.std.specs.List.{drop-map}
use Rattle.std.proofs.lemmas.List.{length-map, take_rest}
use Rattle.dh_base.specs.declared.plain.CutKind.TheVariants.{Latest}
use Rattle.engine.specs.declared.updates.Shown.{Shown}
use Rattle.engine.specs.Seen.{state_of}
use Rattle.engine.specs.Stands.{GoesOn}
use Rattle.engine.specs.Tables.{Served, tables_of}
use Rattle.table_sums.specs.YearParts.{YearParts, together}
use Rattle.engine.proofs.Orders.{begun_cuts}
use Rattle.engine.proofs.SlotLemmas.{cut_given}
use Rattle.engine.proofs.StandLemmas.{latest_begun, part-made}
use Rattle.engine.proofs.updates.begin_latest.Goals as goal

pub latest_part-requires-clause-within : goal.latest_part-requires-clause-within
latest_part-requires-clause-within c =
    let all = length-map c.args.changes.now arc_value in
    let within = c.requires.order.published in
    let below = c.requires.order.base_cut in
    let base = c.base.ensures ∙ ap (λ (tables : Served). tables.base) c.deref.ensures in
    let is = ap (λ (b : YearParts). b.base_cut) base ∙ c.requires.shows.stands.cut in
    omega arith

pub latest_part-requires-clause-base : goal.latest_part-requires-clause-base
latest_part-requires-clause-base c =
    let base = c.base.ensures ∙ ap (λ (tables : Served). tables.base) c.deref.ensures in
    let is = ap (λ (b : YearParts). b.base_cut) base ∙ c.requires.shows.stands.cut in
    ap (λ (b : YearParts). together b.parts) base ∙ c.requires.shows.stands.base
    ∙ ap (λ n. tables_of c.args.meta.now (take n (map arc_value c.args.changes.now))) (sym is)

pub returns-clause-step : goal.returns-clause-step
returns-clause-step c =
    let log = map arc_value c.args.changes.now in
    begun_cuts c.args.limits.now (state_of log c.args.shown.now) (state_of log c.stage_latest-ticket.new.shown) Latest c.stage_latest-ticket.result
    (length c.args.changes.now) c.requires.free c.stage_latest-ticket.ensures.ticket (sym (length-map c.args.changes.now arc_value))
    (ap (state_of log) c.stage_latest-ticket.ensures.new)

pub returns-clause-given : goal.returns-clause-given
returns-clause-given c =
    let changes = c.args.changes.now in
    let first = c.args.shown.now.base_cut in
    let rest = ap (map arc_value) (take_rest changes first) ∙ sym (drop-map arc_value first changes) in
    cut_given c.args.meta.now (state_of (map arc_value c.args.changes.now) c.args.shown.now) Latest _ refl c.new.ensures
    (c.in-Ok.ensures ∙ rest) c.requires.few c.requires.fits

pub returns-clause-shows : goal.returns-clause-shows
returns-clause-shows c =
    let log = map arc_value c.args.changes.now in
    let base = c.base.ensures ∙ ap (λ (tables : Served). tables.base) c.deref.ensures in
    let is = ap (λ (b : YearParts). b.base_cut) base ∙ c.requires.shows.stands.cut in
    latest_begun c.args.meta.now log c.args.shown.now c.stage_latest-ticket.new.shown _ c.stage_latest-ticket.ensures.new
    (subst (λ b. GoesOn c.args.meta.now log b (length c.args.changes.now) (arc_value c.in-Ok-latest_part.part)) is c.in-Ok-latest_part.ensures.goes)
    c.requires.shows

pub returns-clause-part : goal.returns-clause-part
returns-clause-part c =
    let base = c.base.ensures ∙ ap (λ (tables : Served). tables.base) c.deref.ensures in
    let is = ap (λ (b : YearParts). b.base_cut) base ∙ c.requires.shows.stands.cut in
    part-made c.stage_latest-ticket.new.shown.latest _ c.args.shown.now.base_cut (length c.args.changes.now)
    (ap (λ (s : Shown). s.latest) c.stage_latest-ticket.ensures.new) (c.in-Ok-latest_part.ensures.from ∙ is) c.in-Ok-latest_part.ensures.goes.to
