use Rattle.std.proofs.Common.{◌∙◌, IfOk, map, sym, ap, subst}
use Rattle.std.specs.Arc.{arc_value}
use Rattle.std.specs.Prelude.{option_map}
use Rattle.dh_base.specs.declared.plain.CutKind.{CutKind}
use Rattle.engine.specs.Machine.{by_kind}
use Rattle.engine.specs.Seen.{state_of, staged_latest, refused_by, update_in, part_in, BeginsPart, Cuts, IsCutOf}
use Rattle.engine.proofs.updates.cut.Goals as goal

pub begin_full-requires-clause-free : goal.begin_full-requires-clause-free
begin_full-requires-clause-free c =
    let none = ap (λ x. refused_by x c.args.shown.now.ticket c.args.limits.now.updates) (sym c.staged_of.ensures) ∙ sym c.refusal.ensures ∙ c.in_default.is in
    ap (λ kind. refused_by (by_kind kind c.args.shown.now.full (staged_latest c.args.shown.now.latest)) c.args.shown.now.ticket c.args.limits.now.updates)
    (sym c.in-Full.is) ∙ none

pub begin_latest-requires-clause-free : goal.begin_latest-requires-clause-free
begin_latest-requires-clause-free c =
    let none = ap (λ x. refused_by x c.args.shown.now.ticket c.args.limits.now.updates) (sym c.staged_of.ensures) ∙ sym c.refusal.ensures ∙ c.in_default.is in
    ap (λ kind. refused_by (by_kind kind c.args.shown.now.full (staged_latest c.args.shown.now.latest)) c.args.shown.now.ticket c.args.limits.now.updates)
    (sym c.in-Latest.is) ∙ none

pub returns-in-Full-clause-step : goal.returns-in-Full-clause-step
returns-in-Full-clause-step c =
    let log = map arc_value c.args.changes.now in
    subst (λ (kind : CutKind). Cuts c.args.limits.now (state_of log c.args.shown.now) kind (update_in c.begin_full.result) (state_of log
    c.begin_full.new.shown))
    (sym c.in-Full.is) c.begin_full.ensures.step

pub returns-in-Full-clause-given : goal.returns-in-Full-clause-given
returns-in-Full-clause-given c =
    subst (λ (kind : CutKind). IfOk c.begin_full.result (IsCutOf c.args.meta.now (state_of (map arc_value c.args.changes.now) c.args.shown.now) kind))
    (sym c.in-Full.is) c.begin_full.ensures.given

pub returns-in-Latest-clause-step : goal.returns-in-Latest-clause-step
returns-in-Latest-clause-step c =
    let log = map arc_value c.args.changes.now in
    subst (λ (kind : CutKind). Cuts c.args.limits.now (state_of log c.args.shown.now) kind (update_in c.begin_latest.result)
    (state_of log c.begin_latest.new.shown)) (sym c.in-Latest.is) c.begin_latest.ensures.step

pub returns-in-Latest-clause-given : goal.returns-in-Latest-clause-given
returns-in-Latest-clause-given c =
    subst (λ (kind : CutKind). IfOk c.begin_latest.result (IsCutOf c.args.meta.now (state_of (map arc_value c.args.changes.now) c.args.shown.now) kind))
    (sym c.in-Latest.is) c.begin_latest.ensures.given

pub returns-in-Full-clause-part : goal.returns-in-Full-clause-part
returns-in-Full-clause-part c =
    subst (λ (kind : CutKind). BeginsPart (state_of (map arc_value c.args.changes.now) c.args.shown.now) kind (update_in c.begin_full.result)
    (option_map part_in c.args.shown.now.latest) (option_map part_in c.begin_full.new.shown.latest)) (sym c.in-Full.is) c.begin_full.ensures.part

pub returns-in-Latest-clause-part : goal.returns-in-Latest-clause-part
returns-in-Latest-clause-part c =
    subst (λ (kind : CutKind). BeginsPart (state_of (map arc_value c.args.changes.now) c.args.shown.now) kind (update_in c.begin_latest.result)
    (option_map part_in c.args.shown.now.latest) (option_map part_in c.begin_latest.new.shown.latest)) (sym c.in-Latest.is) c.begin_latest.ensures.part
