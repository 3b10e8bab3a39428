-- What a request to change comes to: the writes and the report's body and status, or a refusal.
use Rattle.std.specs.Prelude.{◌||◌, ℕ, ℤ, Bool, nat_eq, List, [], ◌∷◌, codes, slice_get, Option, None, Some, option_map, Result, Ok, Err}
use Rattle.dh_approvals.specs.Decisions.{decided}
use Rattle.dh_approvals.specs.declared.act.ApprovalAct.{ApprovalAct}
use Rattle.dh_approvals.specs.declared.act.ApprovalFault.{ApprovalFault}
use Rattle.dh_approvals.specs.declared.act.ApprovalFault.TheVariants as approval
use Rattle.dh_base.specs.declared.codes.Code.TheVariants as code
use Rattle.dh_base.specs.declared.codes.Refusal.{Refusal}
use Rattle.dh_changes.specs.declared.change.Write.{Write}
use Rattle.dh_metadata.specs.declared.held.Records.{Records}
use Rattle.dh_metadata.specs.declared.records.User.{User}
use Rattle.dh_changes.specs.declared.outcome.Who.{Who}
use Rattle.dh_changes.specs.declared.outcome.Who.TheVariants as who
use Rattle.dh_changes.specs.declared.outcome.Verdict.{Verdict}
use Rattle.dh_changes.specs.Facts.{Facts, facts_in}
use Rattle.tracker_import.specs.Verdicts as tracker
use Rattle.engine.specs.Report.{report_text, report_status_of}
use Rattle.value_import.specs.Verdicts.{verdict_of, completions_verdict_of}
use Rattle.engine.specs.Summary.{summary_text, summary_status_of}
use Rattle.engine.specs.declared.request.ChangeRequest.{ChangeRequest}
use Rattle.engine.specs.declared.request.ChangeRequest.TheVariants.{Values, Completion, Approval, Tracker}
use Rattle.engine.specs.declared.request.Judged.{Judged}
use Rattle.engine.specs.declared.request.JudgeFault.{JudgeFault}
use Rattle.engine.specs.declared.request.JudgeFault.TheVariants as fault

-- who asks for what, and when
pub record Asked : Type 0 where
  pub who : Who
  pub moment : ℤ
  pub request : ChangeRequest

-- a user's identifier, and none for the loader
abbrev pub maker_of : Records → Who → Option (List ℕ)
maker_of meta (who.User number) = option_map (λ (user : User). user.id) (slice_get meta.users number)
maker_of meta who.Loader = None

-- the report on an import is its summary
abbrev pub import_report : Verdict → Judged
import_report verdict = record { writes = verdict.writes; body = summary_text verdict; status = summary_status_of verdict }

-- the report on a tracker bundle
abbrev pub bundle_report : Verdict → Judged
bundle_report verdict = record { writes = verdict.writes; body = report_text verdict; status = report_status_of verdict }

-- the body of the report on an approval
unfoldable pub approval_body : List ℕ
approval_body = codes "{\"httpStatus\":\"OK\",\"httpStatusCode\":200,\"status\":\"OK\"}"

abbrev pub approval_report : Write → Judged
approval_report write = record { writes = write ∷ []; body = approval_body; status = 200 }

-- how a refused act is reported
abbrev pub refusal_of : ApprovalFault → Refusal
refusal_of approval.NoRight = record { code = code.F40; detail = [] }
refusal_of (approval.NotReady unit) = record { code = code.F41; detail = unit }
refusal_of approval.AlreadyApproved = record { code = code.F42; detail = [] }
refusal_of approval.NotApproved = record { code = code.F43; detail = [] }
refusal_of (approval.ApprovedAbove unit) = record { code = code.F44; detail = unit }
refusal_of (approval.NotAccepted unit) = record { code = code.F45; detail = unit }

abbrev pub by_decision : Result Write ApprovalFault → Result Judged Refusal
by_decision (Ok write) = Ok (approval_report write)
by_decision (Err fault) = Err (refusal_of fault)

-- only users approve
abbrev pub approval_by : Facts → Records → Who → ApprovalAct → Result Judged Refusal
approval_by facts meta (who.User user) act = by_decision (decided facts meta user act)
approval_by facts meta who.Loader act = Err (refusal_of approval.NoRight)

-- by the request's kind; an import and a tracker bundle are never refused as a whole
abbrev pub judged_by : Facts → Records → Who → ℤ → ChangeRequest → Result Judged Refusal
judged_by facts meta asker moment (Values set) = Ok (import_report (verdict_of facts meta asker moment set))
judged_by facts meta asker moment (Completion list) = Ok (import_report (completions_verdict_of facts meta asker moment list))
judged_by facts meta asker moment (Approval act) = approval_by facts meta asker act
judged_by facts meta asker moment (Tracker bundle) = Ok (bundle_report (tracker.verdict_of facts meta asker bundle))

-- over a log of these writes
unfoldable pub judged : Records → List Write → Asked → Result Judged Refusal
judged meta writes asked = judged_by (facts_in writes) meta asked.who asked.moment asked.request

-- why a request comes to no report; running out of memory has no cause
abbrev pub cause_of : JudgeFault → Option Refusal
cause_of (fault.Refused refused) = Some refused
cause_of fault.Memory = None

-- a report's status
abbrev pub is_report_status : ℕ → Bool
is_report_status status = nat_eq status 200 || nat_eq status 409
