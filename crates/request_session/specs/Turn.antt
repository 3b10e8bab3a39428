-- One turn of a session: a request is read and answered, or the session ends.
use Rattle.std.specs.Prelude.{◌≡◌, ◌&&◌, ℕ, Bool, List, [], Option, None, Some, Result, Ok, Err}
use Rattle.std.specs.Io.KnownBytes.{Appends}
use Rattle.dh_outside.specs.Talk.{Talk, Says}
use Rattle.dh_outside.specs.declared.Failed.{Failed}
use Rattle.http_wire.specs.Reads.{RestSeen, Reads}
use Rattle.http_wire.specs.declared.request.Request.{Request}
use Rattle.http_wire.specs.declared.fault.WireFault.{WireFault}
use Rattle.http_wire.specs.declared.fault.WireFault.TheVariants as fault
use Rattle.request_session.specs.Replies.{RefusesBy}
use Rattle.request_session.specs.Session.{AppendsFront}
use Rattle.request_session.specs.declared.ended.Ended.{Ended}
use Rattle.request_session.specs.declared.ended.Ended.TheVariants as end
use Rattle.request_session.specs.declared.ended.Turn.{Turn}
use Rattle.request_session.specs.declared.ended.Turn.TheVariants.{Answered, Stopped}

-- something was written, and nothing read
abbrev pub Speaks : Option Talk → Option Talk → Type 0
Speaks talk talk' = (text : List ℕ) × Says talk talk' text

-- a text was written whole, or a prefix of it
abbrev pub Sent : {T : Type 0} → Result T Failed → Option (List ℕ) → Option (List ℕ) → Option Talk → Option Talk → List ℕ → Type 0
Sent (Ok v) old new talk talk' text = Appends old new text × Says talk talk' text
Sent (Err e) old new talk talk' text = AppendsFront old new text × Speaks talk talk'

-- What comes of a request: the machine's reply is written, which says that the connection is kept where the request asks
-- for it and more requests are allowed.
abbrev pub Responds : {M : Type 0} → (M → Request → Bool → List ℕ → M → Type 0) → Bool → Option (List ℕ) → Option (List ℕ) → Option Talk → Option Talk → M → M
    → Request → Turn → Type 0
Responds step more written written' talk talk' old new request (Answered keep) =
    (reply : List ℕ) × step old request (request.keep && more) reply new × Appends written written' reply × (keep ≡ request.keep) × Says talk talk' reply
Responds step more written written' talk talk' old new request (Stopped end.WriteFault) =
    (reply : List ℕ) × step old request (request.keep && more) reply new × AppendsFront written written' reply
Responds step more written written' talk talk' old new request _ = ⊥

-- what comes where there is no request
abbrev pub Stops : Option (List ℕ) → Option (List ℕ) → WireFault → Ended → Type 0
Stops written written' (fault.Refused code) (end.Refused told) = (told ≡ code) × (text : List ℕ) × RefusesBy code text × Appends written written' text
Stops written written' (fault.Refused code) end.WriteFault = (text : List ℕ) × RefusesBy code text × AppendsFront written written' text
Stops written written' fault.Truncated end.Truncated = Appends written written' []
Stops written written' fault.ReadFault end.ReadFault = Appends written written' []
Stops written written' fault.Memory end.Memory = Appends written written' []
Stops written written' _ _ = ⊥

-- what comes of what was read
abbrev pub Follows : {M : Type 0} → (M → Request → Bool → List ℕ → M → Type 0) → Bool → Option (List ℕ) → Option (List ℕ) → Option Talk → Option Talk → M → M
    → Result (Option Request) WireFault → Turn → Type 0
Follows step more written written' talk talk' old new (Ok (Some request)) turn = Responds step more written written' talk talk' old new request turn
Follows step more written written' talk talk' old new (Ok None) turn = (turn ≡ Stopped end.Closed) × (new ≡ old) × Appends written written' []
Follows step more written written' talk talk' old new (Err found) turn = (how : Ended) × (turn ≡ Stopped how) × (new ≡ old) × Stops written written' found how

-- a turn: what was read of the source, what came of it, and that all writes came after all reads
pub record Turns {M : Type 0} (step : M → Request → Bool → List ℕ → M
    → Type 0) (more : Bool) (left left' : Option (List ℕ)) (talk talk' : Option Talk) (held held' : RestSeen) (written written' : Option (List ℕ)) (old new : M)
    (turn : Turn) : Type 0 where
  pub answer : Result (Option Request) WireFault
  pub heard : Option Talk
  pub reads : Reads left left' talk heard held held' answer
  pub follows : Follows step more written written' heard talk' old new answer turn
  pub speaks : Speaks heard talk'
