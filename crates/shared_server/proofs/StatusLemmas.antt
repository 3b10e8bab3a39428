-- The status of a report in a legal history is one that a reply may have.
use Rattle.std.proofs.Common.{◌≡◌, ℕ, Bool, true, false, cond, List, [], ◌∷◌, ◌++◌, Result, Ok, Err, IfOk, refl, subst}
use Rattle.std.specs.Prelude.{◌==◌}
use Rattle.dh_metadata.specs.declared.held.Records.{Records}
use Rattle.change_log.specs.declared.limits.Limits.{Limits}
use Rattle.engine.specs.Requests.{Asked}
use Rattle.shared_engine.specs.Views.{own, TokenView}
use Rattle.engine.specs.Machine.{next}
use Rattle.engine.specs.Machine.Act.{changed}
use Rattle.engine.specs.declared.machine.Report.{Report}
use Rattle.engine.specs.declared.machine.ChangeFault.{ChangeFault}
use Rattle.shared_engine.specs.Calls.{IsCall}
use Rattle.shared_engine.specs.Entries.{Entry, Stand, caller_of, entries_of, after_entry, IsRight, IsLegalFrom}
use Rattle.shared_engine.specs.Histories.{Made, begin}
use Rattle.request_replies.proofs.Statuses.{report_status}
use Rattle.request_session.specs.Heads.{is_reply_status}

-- somewhere the system stands so that this entry is right
abbrev IsRightSomewhere : Records → Limits → Entry → Type 0
IsRightSomewhere meta limits entry = (stand : Stand) × IsRight meta limits stand entry

first_of : (x y : Entry) (xs ys : List Entry) → x ∷ xs ≡ y ∷ ys → x ≡ y
first_of x y xs ys is = cc

rest_of : (x y : Entry) (xs ys : List Entry) → x ∷ xs ≡ y ∷ ys → xs ≡ ys
rest_of x y xs ys is = cc

-- by whether the first entry is the caller's, and what is known of the rest
own_by : (meta : Records) (limits : Limits) (stand : Stand) (x : Entry) (rest front : List Entry) (entry : Entry) (mine : Bool) → IsRight meta limits stand x
    → ((front : List Entry) → rest ≡ front ++ entry ∷ [] → IsRightSomewhere meta limits entry) → cond mine (x ∷ rest) rest ≡ front ++ entry ∷ []
    → IsRightSomewhere meta limits entry
own_by meta limits stand x rest front entry false right further is = further front is
own_by meta limits stand x rest [] entry true right further is =
    (stand, subst (λ (e : Entry). IsRight meta limits stand e) (first_of x entry rest [] is) right)
own_by meta limits stand x rest (f ∷ fs) entry true right further is = further fs (rest_of x f rest (fs ++ entry ∷ []) is)

-- an entry of a caller is right where it stands
own_right : (meta : Records) (limits : Limits) (stand : Stand) (list : List Entry) (who : ℕ) (front : List Entry) (entry : Entry)
    → IsLegalFrom meta limits stand list → own caller_of who list ≡ front ++ entry ∷ [] → IsRightSomewhere meta limits entry
own_right meta limits stand [] who [] entry legal is = absurd (cc)
own_right meta limits stand [] who (f ∷ fs) entry legal is = absurd (cc)
own_right meta limits stand (x ∷ xs) who front entry legal is =
    own_by meta limits stand x (own caller_of who xs) front entry (caller_of x == who) legal.0
    (λ front is. own_right meta limits (after_entry meta stand x) xs who front entry legal.1 is) is

pub reported : (made : Made) (before now : TokenView Entry) (asked : Asked) (found : Result Report ChangeFault)
    → ((faults : ℕ) × IsCall made before now (entries_of before.caller (changed asked found) faults))
    → IfOk found (λ report. is_reply_status report.status ≡ true)
reported made before now asked (Ok report) call =
    let right = own_right made.meta made.limits (begin made.opening) now.list before.caller (own caller_of before.caller before.list)
    (record { caller = before.caller; act = changed asked (Ok report); faults = call.0 }) call.1.legal call.1.mine in
    report_status made.meta made.limits right.0.machine asked (Ok report) (next made.meta right.0.machine (changed asked (Ok report))) (right.1.reply, refl)
reported made before now asked (Err fault) call = tt
