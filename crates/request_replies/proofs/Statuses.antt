-- The status of each code is one that a reply may have.
use Rattle.std.proofs.Common.{◌≡◌, ◌∙◌, ◌⊎◌, inl, inr, ap, ℕ, Bool, true, false, ◌||◌, List, Result, Ok, Err, IfOk, refl, nat_eq, arith}
use Rattle.std.proofs.lemmas.Bool.Decides.{nat_tests}
use Rattle.dh_base.specs.declared.codes.Refusal.{Refusal}
use Rattle.dh_changes.specs.declared.change.Change.{Change}
use Rattle.dh_metadata.specs.declared.held.Records.{Records}
use Rattle.change_log.specs.declared.limits.Limits.{Limits}
use Rattle.change_log.specs.Log.{writes_of}
use Rattle.engine.specs.Requests.{Asked, judged, is_report_status}
use Rattle.engine.specs.declared.request.Judged.{Judged}
use Rattle.engine.proofs.StatusLemmas.{report-status}
use Rattle.engine.specs.Machine.{State, Step, IsReplyBy, report_of, judged_in}
use Rattle.engine.specs.Machine.Act.{changed}
use Rattle.engine.specs.declared.machine.Report.{Report}
use Rattle.engine.specs.declared.machine.ChangeFault.{ChangeFault}
use Rattle.dh_base.specs.Codes.{status_of}
use Rattle.dh_base.specs.declared.codes.Code.{Code}
use Rattle.dh_base.specs.declared.codes.Code.TheVariants.{F1, F2, F3, F4, F5, F6, F7, F8, F10, F11, F12, F13, F14, F15, F16, F17, F18, F19, F20, F21}
use Rattle.dh_base.specs.declared.codes.Code.TheVariants.{F22, F23, F30, F31, F32, F40, F41, F42, F43, F44, F45, C1, C2, C3, C4, C5, C6, C7, C8, C9, C10}
use Rattle.dh_base.specs.declared.codes.Code.TheVariants.{C11, C12, C13, C14, C15, T1, T2, T3, T4, T5, T6, T7, T8, T9, T10, T11, T12, T13, T14}
use Rattle.request_session.specs.Heads.{is_reply_status}

pub has_reply : (code : Code) → is_reply_status (status_of code) ≡ true
unfolding is_reply_status
has_reply F1 = refl
has_reply F2 = refl
has_reply F3 = refl
has_reply F4 = refl
has_reply F5 = refl
has_reply F6 = refl
has_reply F7 = refl
has_reply F8 = refl
has_reply F10 = refl
has_reply F11 = refl
has_reply F12 = refl
has_reply F13 = refl
has_reply F14 = refl
has_reply F15 = refl
has_reply F16 = refl
has_reply F17 = refl
has_reply F18 = refl
has_reply F19 = refl
has_reply F20 = refl
has_reply F21 = refl
has_reply F22 = refl
has_reply F23 = refl
has_reply F30 = refl
has_reply F31 = refl
has_reply F32 = refl
has_reply F40 = refl
has_reply F41 = refl
has_reply F42 = refl
has_reply F43 = refl
has_reply F44 = refl
has_reply F45 = refl
has_reply C1 = refl
has_reply C2 = refl
has_reply C3 = refl
has_reply C4 = refl
has_reply C5 = refl
has_reply C6 = refl
has_reply C7 = refl
has_reply C8 = refl
has_reply C9 = refl
has_reply C10 = refl
has_reply C11 = refl
has_reply C12 = refl
has_reply C13 = refl
has_reply C14 = refl
has_reply C15 = refl
has_reply T1 = refl
has_reply T2 = refl
has_reply T3 = refl
has_reply T4 = refl
has_reply T5 = refl
has_reply T6 = refl
has_reply T7 = refl
has_reply T8 = refl
has_reply T9 = refl
has_reply T10 = refl
has_reply T11 = refl
has_reply T12 = refl
has_reply T13 = refl
has_reply T14 = refl

pub memory_status : is_reply_status 507 ≡ true
unfolding is_reply_status
memory_status = refl

pub ok_status : is_reply_status 200 ≡ true
unfolding is_reply_status
ok_status = refl

or-cases : (a b : Bool) → (a || b) ≡ true → (a ≡ true) ⊎ (b ≡ true)
or-cases true b is = inl refl
or-cases false b is = inr is

same-number : (m n : ℕ) → nat_eq m n ≡ true → m ≡ n
same-number m n is = grind (arith, nat_tests)

ok-has : is_reply_status 200 ≡ true
unfolding is_reply_status
ok-has = refl

warning-has : is_reply_status 409 ≡ true
unfolding is_reply_status
warning-has = refl

either-has : (status : ℕ) → (nat_eq status 200 ≡ true) ⊎ (nat_eq status 409 ≡ true) → is_reply_status status ≡ true
either-has status (inl is) = ap is_reply_status (same-number status 200 is) ∙ ok-has
either-has status (inr is) = ap is_reply_status (same-number status 409 is) ∙ warning-has

report-has : (status : ℕ) → is_report_status status ≡ true → is_reply_status status ≡ true
report-has status is = either-has status (or-cases (nat_eq status 200) (nat_eq status 409) is)

-- so is that of a report
by-verdict : (meta : Records) (limits : Limits) (log : List Change) (asked : Asked) (found : Result Judged Refusal) (report : Report)
    → judged meta (writes_of log) asked ≡ found
    → IsReplyBy meta limits log asked found (Ok report) → is_reply_status report.status ≡ true
unfolding report_of
by-verdict meta limits log asked (Ok found) report is reply =
    ap (λ (r : Report). is_reply_status r.status) reply.1 ∙ report-has found.status (report-status meta (writes_of log) asked found is)
by-verdict meta limits log asked (Err refused) report is reply = absurd (cc)

pub report_status : (meta : Records) (limits : Limits) (old : State) (asked : Asked) (found : Result Report ChangeFault) (new : State)
    → Step meta limits old (changed asked found) new → IfOk found (λ report. is_reply_status report.status ≡ true)
report_status meta limits old asked (Ok report) new step = by-verdict meta limits old.log asked (judged_in meta old.log asked) report refl step.0
report_status meta limits old asked (Err fault) new step = tt
