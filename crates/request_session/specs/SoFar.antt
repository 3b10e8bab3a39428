-- How far a session came: what stands between two turns.
use Rattle.std.specs.Prelude.{◌≡◌, ℕ, Bool, List, [], ◌++◌, Option, None, Some, length, ⊤}
use Rattle.std.specs.Io.KnownBytes.{Consumes, Appends}
use Rattle.dh_outside.specs.Talk.{Talk, Heard}
use Rattle.http_wire.specs.Reads.{RestSeen}
use Rattle.http_wire.specs.declared.request.Request.{Request}
use Rattle.request_session.specs.Prompt.{given_by, EachRead, AllAnswered}
use Rattle.request_session.specs.Session.{Requests, Replies, GoesOn}

-- where the order is told: these bytes were taken, these replies written, and each read came after the replies before it
abbrev pub PromptSoFar : {M : Type 0} → (M → Request → Bool → List ℕ → M → Type 0) → ℕ → Option Talk → Option Talk → M → List ℕ → List ℕ → Type 0
PromptSoFar step most None talk' old taken replies = ⊤
PromptSoFar step most (Some first) None old taken replies = ⊥
PromptSoFar step most (Some first) (Some last) old taken replies =
    (reads : List Heard) × (last.heard ≡ first.heard ++ reads) × (given_by reads ≡ taken) × (last.written ≡ first.written ++ replies)
    × (first.left ≡ taken ++ last.left) × EachRead (AllAnswered step most old first.written) [] reads

pub record SoFar {M : Type 0} (step : M → Request → Bool → List ℕ → M
    → Type 0) (most : ℕ) (left left' : Option (List ℕ)) (talk talk' : Option Talk) (written written' : Option (List ℕ)) (held : RestSeen) (old new : M)
    (served : ℕ) : Type 0 where
  pub taken : List ℕ
  pub consumed : Consumes left left' taken
  pub counted : held.read ≡ length taken
  pub requests : List Request
  pub found : Requests taken requests held.bytes
  pub count : served ≡ length requests
  pub goes : GoesOn most requests
  pub replies : List ℕ
  pub given : Replies step most 0 old requests replies new
  pub writes : Appends written written' replies
  pub prompt : PromptSoFar step most talk talk' old taken replies
