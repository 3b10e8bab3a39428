use Rattle.std.proofs.Common.{ℤ, FitsSigned, IfOk, refl, rules, subst, to_z-of_z, w64}
use Rattle.dhis_main.specs.Outcome.{IsReport}
use Rattle.dhis_main.proofs.RunLemmas.{help_runs, version_runs, usage_runs, report_runs, query_runs, session_runs, word_at-listed}
use Rattle.dhis_main.proofs.run.carry_out.Goals as goal

pub returns-in-Query : goal.returns-in-Query
returns-in-Query g c =
    let faults = g.F.FileSet.file_faults c.args.files.now in
    query_runs c.args.command _ _ _ _ _ _ c.in-Query.is (word_at-listed c.args.words.now 1 _ refl) (word_at-listed c.args.words.now 2 _ refl)
    (c.answer_query.ensures (g.F.FileSet.file c.args.files.now) faults faults)

pub returns-in-Session : goal.returns-in-Session
returns-in-Session g c =
    session_runs c.args.command _ _ _ _ _ c.in-Session.is (word_at-listed c.args.words.now 1 _ refl) c.hold_session.ensures

pub returns-in-Help : goal.returns-in-Help
returns-in-Help g c = help_runs c.args.command _ _ _ _ _ c.in-Help.is refl c.help_reply.ensures c.deliver.ensures

pub returns-in-Version : goal.returns-in-Version
returns-in-Version g c = version_runs c.args.command _ _ _ _ _ c.in-Version.is refl c.version_reply.ensures c.deliver-in-Version.ensures

pub returns-in-Generate : goal.returns-in-Generate
returns-in-Generate g c =
    let fits : FitsSigned w64 c.now.result = search rules in
    report_runs c.args.command _ c.now.result _ _ _ _ _ c.in-Generate.is refl c.now.ensures
    (subst (λ (moment : ℤ). IfOk c.report_reply.result (IsReport c.in-Generate.count moment)) (to_z-of_z fits) c.report_reply.ensures)
    c.deliver-in-Generate.ensures

pub returns-in-Bad : goal.returns-in-Bad
returns-in-Bad g c = usage_runs c.args.command _ _ _ _ _ _ c.in-Bad.is refl c.usage_reply.ensures c.deliver-in-Bad.ensures
