-- The status of each report.
use Rattle.std.proofs.Common.{◌≡◌, ◌∙◌, ap, ℤ, Bool, true, false, cond, List, Result, Ok, Err, refl}
use Rattle.dh_approvals.specs.Decisions.{decided}
use Rattle.dh_approvals.specs.declared.act.ApprovalFault.{ApprovalFault}
use Rattle.dh_base.specs.declared.codes.Refusal.{Refusal}
use Rattle.dh_changes.specs.declared.change.Write.{Write}
use Rattle.dh_metadata.specs.declared.held.Records.{Records}
use Rattle.dh_changes.specs.declared.outcome.Verdict.{Verdict}
use Rattle.dh_changes.specs.declared.outcome.Who.{Who}
use Rattle.dh_changes.specs.declared.outcome.Who.TheVariants as who
use Rattle.dh_changes.specs.Facts.{Facts, facts_in}
use Rattle.engine.specs.Summary.{is_clean}
use Rattle.tracker_import.specs.Verdicts as tracker
use Rattle.engine.specs.Report as report
use Rattle.value_import.specs.Verdicts.{verdict_of, completions_verdict_of}
use Rattle.engine.specs.Requests.{Asked, import_report, bundle_report, approval_report, by_decision, judged, judged_by, is_report_status}
use Rattle.engine.specs.declared.request.ChangeRequest.{ChangeRequest}
use Rattle.engine.specs.declared.request.ChangeRequest.TheVariants.{Values, Completion, Approval, Tracker}
use Rattle.engine.specs.declared.request.Judged.{Judged}

of-clean : (clean : Bool) → is_report_status (cond clean 200 409) ≡ true
of-clean true = refl
of-clean false = refl

of-import : (verdict : Verdict) (found : Judged) (meant : Result Judged Refusal) → meant ≡ Ok (import_report verdict) → meant ≡ Ok found
    → is_report_status found.status ≡ true
of-import verdict found meant made is =
    let e : found ≡ import_report verdict = cc in
    ap (λ (j : Judged). is_report_status j.status) e ∙ of-clean (is_clean verdict)

of-outcome : (clean idle : Bool) → is_report_status (cond clean 200 (cond idle 409 200)) ≡ true
of-outcome true idle = refl
of-outcome false true = refl
of-outcome false false = refl

of-bundle : (verdict : Verdict) (found : Judged) (meant : Result Judged Refusal) → meant ≡ Ok (bundle_report verdict) → meant ≡ Ok found
    → is_report_status found.status ≡ true
of-bundle verdict found meant made is =
    let e : found ≡ bundle_report verdict = cc in
    ap (λ (j : Judged). is_report_status j.status) e ∙ of-outcome (report.is_clean verdict) (report.is_idle verdict)

of-decision : (decision : Result Write ApprovalFault) (found : Judged) → by_decision decision ≡ Ok found → is_report_status found.status ≡ true
of-decision (Ok write) found is =
    let e : found ≡ approval_report write = cc in
    ap (λ (j : Judged). is_report_status j.status) e
of-decision (Err fault) found is = absurd (cc)

by-kind : (facts : Facts) (meta : Records) (who : Who) (moment : ℤ) (request : ChangeRequest) (found : Judged)
    → judged_by facts meta who moment request ≡ Ok found
    → is_report_status found.status ≡ true
by-kind facts meta who moment (Values set) found is =
    of-import (verdict_of facts meta who moment set) found (judged_by facts meta who moment (Values set)) refl is
by-kind facts meta who moment (Completion list) found is =
    of-import (completions_verdict_of facts meta who moment list) found (judged_by facts meta who moment (Completion list)) refl is
by-kind facts meta (who.User user) moment (Approval act) found is = of-decision (decided facts meta user act) found is
by-kind facts meta who.Loader moment (Approval act) found is = absurd (cc)
by-kind facts meta who moment (Tracker bundle) found is =
    of-bundle (tracker.verdict_of facts meta who bundle) found (judged_by facts meta who moment (Tracker bundle)) refl is

pub report-status : (meta : Records) (writes : List Write) (asked : Asked) (found : Judged) → judged meta writes asked ≡ Ok found
    → is_report_status found.status ≡ true
unfolding judged
report-status meta writes asked found is = by-kind (facts_in writes) meta asked.who asked.moment asked.request found is
