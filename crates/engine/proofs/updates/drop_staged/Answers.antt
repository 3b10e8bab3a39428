use Rattle.std.proofs.Common.{◌∙◌, None, sym, ap}
use Rattle.std.specs.Prelude.{option_map}
use Rattle.engine.specs.declared.updates.Shown.{Shown}
use Rattle.engine.specs.Machine.{by_kind, with_staged}
use Rattle.engine.specs.Seen.{state_of, part_in}
use Rattle.engine.proofs.StandLemmas.{full_ended, latest_ended}
use Rattle.engine.proofs.updates.drop_staged.Goals as goal

pub returns-in-Full-clause-state : goal.returns-in-Full-clause-state
returns-in-Full-clause-state c = λ log.
    ap (state_of log) c.end_full.ensures
    ∙ ap (λ kind. with_staged (state_of log c.args.shown.now) kind None) (sym c.in-Full.is ∙ c.kind_of.ensures)

pub returns-in-Latest-clause-state : goal.returns-in-Latest-clause-state
returns-in-Latest-clause-state c = λ log.
    ap (state_of log) c.end_latest.ensures
    ∙ ap (λ kind. with_staged (state_of log c.args.shown.now) kind None) (sym c.in-Latest.is ∙ c.kind_of.ensures)

pub returns-in-Full-clause-shows : goal.returns-in-Full-clause-shows
returns-in-Full-clause-shows c = λ meta log h. full_ended meta log c.args.shown.now c.end_full.new.shown c.end_full.ensures h

pub returns-in-Latest-clause-shows : goal.returns-in-Latest-clause-shows
returns-in-Latest-clause-shows c = λ meta log h. latest_ended meta log c.args.shown.now c.end_latest.new.shown c.end_latest.ensures h

pub returns-in-Full-clause-part : goal.returns-in-Full-clause-part
returns-in-Full-clause-part c = λ log.
    ap (λ (s : Shown). option_map part_in s.latest) c.end_full.ensures
    ∙ ap (λ kind. by_kind kind (option_map part_in c.args.shown.now.latest) None) (sym c.in-Full.is ∙ c.kind_of.ensures)

pub returns-in-Latest-clause-part : goal.returns-in-Latest-clause-part
returns-in-Latest-clause-part c = λ log.
    ap (λ (s : Shown). option_map part_in s.latest) c.end_latest.ensures
    ∙ ap (λ kind. by_kind kind (option_map part_in c.args.shown.now.latest) None) (sym c.in-Latest.is ∙ c.kind_of.ensures)
