-- Out of memory every request may be left without its reply, and the machine as it is.
use Rattle.std.proofs.Common.{◌≡◌, ℕ, ℤ, Bool, List, Option, None, Some, Result, Ok, Err, sym, subst, refl}
use Rattle.dh_base.specs.Memory.{IsCause}
use Rattle.dh_base.specs.declared.codes.Refusal.{Refusal}
use Rattle.web_routes.specs.declared.call.Call.{Call}
use Rattle.web_routes.specs.declared.call.Call.TheVariants as call
use Rattle.engine.specs.Seen.{Seen}
use Rattle.engine.specs.declared.machine.ChangeFault.TheVariants as change
use Rattle.engine.specs.declared.machine.CutFault.TheVariants as cut
use Rattle.engine.specs.declared.machine.LookFault.TheVariants as look
use Rattle.request_replies.specs.Steps.{CallReply, RoutedReply}
use Rattle.request_replies.specs.Texts.{IsTold, Refuses, refusal_reply}
use Rattle.request_replies.proofs.TellLemmas.{is_told}

pub gives_up : (seen : Seen) (moment : ℤ) (meant : Result Call Refusal) (keep : Bool) → RoutedReply seen moment meant keep None seen
gives_up seen moment (Err refused) keep = (tt, refl)
gives_up seen moment (Ok (call.Query user asked query)) keep = (record { found = Err look.Memory; looks = refl; tells = tt }, refl)
gives_up seen moment (Ok (call.Check user asked checked)) keep = (record { found = Err look.Memory; looks = refl; tells = tt }, refl)
gives_up seen moment (Ok (call.Update kind)) keep =
    record { between = seen.state; replies = record { found = Err cut.Memory; begins = refl; ends = (refl, tt) }; same = refl }
gives_up seen moment (Ok (call.Values user set)) keep = record { found = Err change.Memory; steps = refl; brought = refl; tells = tt; sure = tt }
gives_up seen moment (Ok (call.Completion user list)) keep = record { found = Err change.Memory; steps = refl; brought = refl; tells = tt; sure = tt }
gives_up seen moment (Ok (call.Approval user act)) keep = record { found = Err change.Memory; steps = refl; brought = refl; tells = tt; sure = tt }
gives_up seen moment (Ok (call.Tracker user bundle)) keep = record { found = Err change.Memory; steps = refl; brought = refl; tells = tt; sure = tt }

pub of_call : (old new : Seen) (moment : ℤ) (meant : Result Call Refusal) (asked : Call) (keep : Bool) (made : Option (List ℕ)) → meant ≡ Ok asked
    → CallReply old moment asked keep made new → RoutedReply old moment meant keep made new
of_call old new moment meant asked keep made is reply = subst (λ (m : Result Call Refusal). RoutedReply old moment m keep made new) (sym is) reply

pub of_refusal : (old : Seen) (moment : ℤ) (meant : Result Call Refusal) (refused : Refusal) (keep : Bool) (made : Option (List ℕ)) → meant ≡ Err refused
    → IsTold made (Some (refusal_reply None keep refused)) → RoutedReply old moment meant keep made old
of_refusal old moment meant refused keep made is told =
    subst (λ (m : Result Call Refusal). RoutedReply old moment m keep made old) (sym is) (told, refl)

-- a request that is no call is refused for its cause
pub of_fault : (old : Seen) (moment : ℤ) (meant : Result Call Refusal) (cause : Option Refusal) (keep : Bool) (made : Option (List ℕ)) → IsCause meant cause
    → Refuses keep cause made → RoutedReply old moment meant keep made old
of_fault old moment meant None keep made is none =
    subst (λ (m : Option (List ℕ)). RoutedReply old moment meant keep m old) (sym none) (gives_up old moment meant keep)
of_fault old moment meant (Some refused) keep made is refuses = of_refusal old moment meant refused keep made is refuses

pub ruleset replies = (gives_up, of_call, of_fault, is_told)

-- a call's reply is that of the call which it is, at the moment
pub call_replied : (old new : Seen) (asked meant : Call) (moment at : ℤ) (keep : Bool) (made : Option (List ℕ)) → asked ≡ meant → at ≡ moment
    → CallReply old at meant keep made new → CallReply old moment asked keep made new
call_replied old new asked meant moment at keep made is when replied =
    subst (λ (k : Call). CallReply old moment k keep made new) (sym is) (subst (λ (m : ℤ). CallReply old m meant keep made new) when replied)
