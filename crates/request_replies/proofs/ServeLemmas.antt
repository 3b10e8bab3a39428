-- A run of the machine told as a session over metadata.
use Rattle.std.proofs.Common.{◌≡◌, ◌≢◌, ◌∙◌, ℕ, ℤ, Bool, List, Option, Some, subst}
use Rattle.http_wire.specs.declared.request.Request.{Request}
use Rattle.dh_metadata.specs.declared.held.Records.{Records}
use Rattle.change_log.specs.Log.{NeverFails}
use Rattle.engine.specs.Seen.{Seen}
use Rattle.request_replies.specs.Steps.{MachineStep}
use Rattle.request_replies.specs.Unseen.{UnseenStep}
use Rattle.request_replies.proofs.UnseenLemmas.{unseen_step}
use Rattle.request_session.specs.Session.{Ran}
use Rattle.request_session.specs.declared.ended.Ended.{Ended}
use Rattle.request_session.specs.declared.ended.Ended.TheVariants.{ReadFault}
use Rattle.request_session.specs.Along.{Carries}
use Rattle.request_session.proofs.AlongLemmas.{ran_along}
use Rattle.request_session.proofs.ToldLemmas.{over_all}
use Rattle.engine.specs.InMemory.{started}
use Rattle.request_replies.specs.Serving.{SessionStep, Served, ServedOver, most_requests}

-- the steps of a machine with an engine and a clock
abbrev machine_step : {M K C : Type 0} → (M → Seen) → (M → C) → (K → ℕ) → (C → ℤ → Type 0) → M → Request → Bool → List ℕ → M → Type 0
machine_step engine clock count shows old request keep text new = MachineStep count shows (clock old) (clock new) (engine old) request keep text (engine new)

-- the clock is the lent one, and the store has no fault
abbrev is_sure : {M C : Type 0} → (M → Seen) → (M → C) → C → M → Type 0
is_sure engine clock lent machine = (clock machine ≡ lent) × ((engine machine).faults ≡ 0)

carries : {M K C : Type 0} (engine : M → Seen) (clock : M → C) (count : K → ℕ) (shows : C → ℤ → Type 0) (lent : C) → NeverFails count
    → Carries engine (is_sure engine clock lent) (machine_step engine clock count shows) (SessionStep (shows lent))
carries engine clock count shows lent never old new request keep text sure step =
    let none : (engine new).faults ≡ 0 = step.sure never sure.1 in
    let replies = unseen_step (shows (clock old)) (engine old) (engine new) request keep text step.replies in (
      (subst (λ c. UnseenStep (shows c) (engine old) request keep text (engine new)) sure.0 replies, none),
      (step.clock ∙ sure.0, none),
    )

-- a run of a machine whose store never fails is one of the session's steps
pub ran_session : {M K C : Type 0} (engine : M → Seen) (clock : M → C) (count : K → ℕ) (shows : C → ℤ → Type 0) (lent : C) → NeverFails count
    → (most : ℕ) (left left' written written' : Option (List ℕ)) (old new : M) (how : Ended) → clock old ≡ lent → (engine old).faults ≡ 0
    → Ran (λ o request keep text n. MachineStep count shows (clock o) (clock n) (engine o) request keep text (engine n)) most left left' written written' old
    new how
    → Ran (SessionStep (shows lent)) most left left' written written' (engine old) (engine new) how
ran_session engine clock count shows lent never most left left' written written' old new how lent_is none ran =
    (ran_along engine (is_sure engine clock lent) (machine_step engine clock count shows) (SessionStep (shows lent))
    (carries engine clock count shows lent never)
    most left left' written written' old new how (lent_is, none) ran).0

-- the run began in the start state, and by this clock
pub from_start : {C : Type 0} (shows : C → ℤ
    → Type 0) (lent clock : C) (begun : Seen) (left left' written written' : Option (List ℕ)) (meta : Records) (how : Ended)
    → lent ≡ clock → begun ≡ started meta
    → (new : Seen) × Ran (SessionStep (shows lent)) most_requests left left' written written' begun new how
    → Served (shows clock) left left' written written' meta how
from_start shows lent clock begun left left' written written' meta how clock_is begun_is ran = (
  ran.0,
  subst (λ c. Ran (SessionStep (shows c)) most_requests left left' written written' (started meta) ran.0 how) clock_is
      (subst (λ s. Ran (SessionStep (shows lent)) most_requests left left' written written' s ran.0 how) begun_is ran.1),
)

-- over an input that is told
pub served_over : (shows : ℤ → Type 0) (bytes : List ℕ) (left left' written written' : Option (List ℕ)) (meta : Records) (how : Ended) → left ≡ Some bytes
    → how ≢ ReadFault
    → Served shows left left' written written' meta how → ServedOver shows bytes written written' meta how
served_over shows bytes left left' written written' meta how told other served =
    (served.0, over_all (SessionStep shows) most_requests bytes left left' written written' (started meta) served.0 how told other served.1)
