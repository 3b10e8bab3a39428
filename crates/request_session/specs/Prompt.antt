-- When replies are written: before more is read.
use Rattle.std.specs.Prelude.{◌≡◌, ℕ, Bool, List, [], ◌∷◌, ◌++◌, Option, None, Some, ⊤}
use Rattle.dh_outside.specs.Talk.{Talk, Heard}
use Rattle.http_wire.specs.Next.{IsOpen}
use Rattle.http_wire.specs.declared.request.Request.{Request}
use Rattle.request_session.specs.Session.{Requests, Replies, GoesOn}

-- all that these reads gave
abbrev pub given_by : List Heard → List ℕ
given_by [] = []
given_by (read ∷ reads) = read.piece ++ given_by reads

-- at each read this holds of the bytes taken before it and of those that stood written
abbrev pub EachRead : (List ℕ → List ℕ → Type 0) → List ℕ → List Heard → Type 0
EachRead P taken [] = ⊤
EachRead P taken (read ∷ reads) = P taken read.before × EachRead P (taken ++ read.piece) reads

-- what stands written after what was written at first are the replies to all requests that are whole in the bytes taken
abbrev pub AllAnswered : {M : Type 0} → (M → Request → Bool → List ℕ → M → Type 0) → ℕ → M → List ℕ → List ℕ → List ℕ → Type 0
AllAnswered {M} step most old first taken written =
    (text : List ℕ) × (written ≡ first ++ text) × (requests : List Request) × (rest : List ℕ) × (now : M) × Requests taken requests rest × IsOpen rest
    × GoesOn most requests × Replies step most 0 old requests text now

-- where the order is told, at each read the replies to all requests that were whole before it are written
abbrev pub Prompt : {M : Type 0} → (M → Request → Bool → List ℕ → M → Type 0) → ℕ → Option Talk → Option Talk → M → Type 0
Prompt step most None new old = ⊤
Prompt step most (Some first) None old = ⊥
Prompt step most (Some first) (Some last) old =
    (reads : List Heard) × (last.heard ≡ first.heard ++ reads) × (first.left ≡ given_by reads ++ last.left)
    × EachRead (AllAnswered step most old first.written) [] reads
