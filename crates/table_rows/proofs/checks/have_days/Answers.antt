use Rattle.std.proofs.Common.{◌∙◌, ◌&&◌, sym, ap, get_or}
use Rattle.std.specs.List.{list_all}
use Rattle.std.proofs.lemmas.List.{take_all}
use Rattle.std.proofs.lemmas.List.Folds.{list_all_more, list_all_at}
use Rattle.table_rows.proofs.checks.have_days.Goals as goal

pub loop-member-preserved : goal.loop-member-preserved
loop-member-preserved g c =
    let lie = g.T.HasDays.lie in
    let list = c.args.list.now in
    let member = c.member-item.result in
    list_all_more lie list c.loop-member.member-index member c.loop-member-test.true
    ∙ ap (λ b. b && lie (get_or list c.loop-member.member-index member)) c.loop-member.invariant
    ∙ ap lie (sym c.member-item.is) ∙ sym c.has_days.ensures ∙ c.if-not-has_days.false

pub returns : goal.returns
returns g c =
    sym c.loop-member.invariant
    ∙ ap (list_all g.T.HasDays.lie) (take_all c.loop-member.member-index c.args.list.now c.loop-member-test.false)

pub returns-then-not-has_days : goal.returns-then-not-has_days
returns-then-not-has_days g c =
    sym (list_all_at g.T.HasDays.lie c.args.list.now c.loop-member.member-index c.member-item.result c.loop-member-test.true
    (ap g.T.HasDays.lie (sym c.member-item.is) ∙ sym c.has_days.ensures ∙ c.if-not-has_days.true))
