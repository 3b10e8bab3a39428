-- A turn, from what was read and what came of it.
use Rattle.std.proofs.Common.{◌≡◌, ℕ, Bool, List, Option, Some, Result, Ok, Err, refl, sym, subst}
use Rattle.dh_outside.specs.Talk.{Talk}
use Rattle.http_wire.specs.Reads.{RestSeen, Reads}
use Rattle.http_wire.specs.declared.request.Request.{Request}
use Rattle.http_wire.specs.declared.fault.WireFault.{WireFault}
use Rattle.request_session.specs.Turn.{Turns, Follows, Responds, Stops, Speaks}
use Rattle.request_session.specs.declared.ended.Ended.{Ended}
use Rattle.request_session.specs.declared.ended.Turn.{Turn}
use Rattle.request_session.specs.declared.ended.Turn.TheVariants.{Stopped}

pub turns_by : {M : Type 0} (step : M → Request → Bool → List ℕ → M → Type 0) (more : Bool) {left mid left' : Option (List ℕ)} {talk heard talk' : Option Talk}
    {held held' : RestSeen} {written middle written' : Option (List ℕ)} {old new : M} (answer : Result (Option Request) WireFault) (turn : Turn)
    → Reads left mid talk heard held held' answer → middle ≡ written → left' ≡ mid → Follows step more middle written' heard talk' old new answer turn
    → Speaks heard talk'
    → Turns step more left left' talk talk' held held' written written' old new turn
turns_by step more {left} {mid} {left'} {talk} {heard} {talk'} {held} {held'} {written} {middle} {written'} {old} {new} answer turn reads unwritten unread
    follows speaks = record {
      answer = answer;
      heard = heard;
      reads = subst (λ l. Reads left l talk heard held held' answer) (sym unread) reads;
      follows = subst (λ w. Follows step more w written' heard talk' old new answer turn) unwritten follows;
      speaks = speaks;
    }

-- a request was read and answered
pub turns_some : {M : Type 0} (step : M → Request → Bool → List ℕ → M → Type 0) (more : Bool) {left mid left' : Option (List ℕ)} {talk heard talk' : Option Talk}
    {held held' : RestSeen} {written middle written' : Option (List ℕ)} {old new : M} {found : Option Request} {request : Request} {turn : Turn}
    → found ≡ Some request → Reads left mid talk heard held held' (Ok found) → middle ≡ written → left' ≡ mid
    → Responds step more middle written' heard talk' old new request turn → Speaks heard talk'
    → Turns step more left left' talk talk' held held' written written' old new turn
turns_some step more {left} {mid} {left'} {talk} {heard} {talk'} {held} {held'} {written} {middle} {written'} {old} {new} {found} {request} {turn}
    is reads unwritten unread responds speaks =
    turns_by step more (Ok (Some request)) turn (subst (λ (f : Option Request). Reads left mid talk heard held held' (Ok f)) is reads) unwritten unread responds speaks

-- no request was read, and the session ends
pub turns_err : {M : Type 0} (step : M → Request → Bool → List ℕ → M → Type 0) (more : Bool) {left mid left' : Option (List ℕ)} {talk heard talk' : Option Talk}
    {held held' : RestSeen} {written middle written' : Option (List ℕ)} {old : M} {fault : WireFault} {how : Ended}
    → Reads left mid talk heard held held' (Err fault) → middle ≡ written → left' ≡ mid → Stops middle written' fault how → Speaks heard talk'
    → Turns step more left left' talk talk' held held' written written' old old (Stopped how)
turns_err step more {old = old} {fault = fault} {how = how} reads unwritten unread stops speaks =
    turns_by step more (Err fault) (Stopped how) reads unwritten unread (how, refl, refl, stops) speaks
