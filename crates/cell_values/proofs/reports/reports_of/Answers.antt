use Rattle.std.proofs.Common.{◌∙◌, ap, List, [], map, sym, subst}
use Rattle.std.specs.List.{filter}
use Rattle.std.proofs.lemmas.List.{take_all}
use Rattle.table_rows.specs.declared.event.RegRow.{RegRow}
use Rattle.table_rows.specs.Groups.{each_once}
use Rattle.cell_values.specs.Reporting.{is_counted, report_of, same_report, reports_of}
use Rattle.cell_values.specs.Prepared.{with_report}
use Rattle.cell_values.proofs.ReportingLemmas.{counted-of}
use Rattle.cell_values.proofs.ReportLemmas.{reports-more, Step, Step-start}
use Rattle.cell_values.proofs.reports.reports_of.Goals as goal

pub loop-reg-preserved : goal.loop-reg-preserved
loop-reg-preserved c =
    reports-more (is_counted c.args.meta.now c.args.which c.args.set c.args.found.now) c.args.set c.args.regs.now c.loop-reg.reg-index c.reg-item.result
    c.loop-reg.reports.items c.add_report.new.reports.items (counted-of c.args.meta.now c.args.which c.args.set c.args.found.now)
    c.requires.rise c.loop-reg-test.true c.reg-item.is c.loop-reg.invariant
    (c.in_ok-add_report.ensures ∙ ap (λ b. with_report b c.loop-reg.reports.items (report_of c.reg-item.result)) c.is_counted-counts.ensures)

pub loop-reg-init : goal.loop-reg-init
loop-reg-init c = subst (Step []) (sym c.new-reports.ensures.items) Step-start

pub returns : goal.returns
unfolding reports_of
returns c =
    c.from.ensures ∙ c.loop-reg.invariant.is
    ∙ ap (λ (regs : List RegRow). each_once same_report (map report_of (filter (is_counted c.args.meta.now c.args.which c.args.set c.args.found.now) regs)))
    (take_all c.loop-reg.reg-index c.args.regs.now c.loop-reg-test.false)
