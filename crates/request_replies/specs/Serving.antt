-- A session over metadata: it starts with an empty log, and what it is told is kept in memory alone.
use Rattle.std.specs.Prelude.{◌≡◌, ℕ, ℤ, Bool, List, Option}
use Rattle.http_wire.specs.declared.request.Request.{Request}
use Rattle.dh_metadata.specs.declared.held.Records.{Records}
use Rattle.engine.specs.Seen.{Seen}
use Rattle.engine.specs.InMemory.{started}
use Rattle.request_replies.specs.Unseen.{UnseenStep}
use Rattle.request_session.specs.Session.{Ran, RanOver}
use Rattle.request_session.specs.declared.ended.Ended.{Ended}

-- the most requests that a session answers
abbrev pub most_requests : ℕ
most_requests = 1000000

-- one reply of a session, which nothing that its user doesn't see changes; nothing is stored outside, so there is no fault of the store
abbrev pub SessionStep : (ℤ → Type 0) → Seen → Request → Bool → List ℕ → Seen → Type 0
SessionStep shows old request keep text new = UnseenStep shows old request keep text new × (new.faults ≡ 0)

-- a session over metadata: what it took of its source, what it wrote, and how it ended
abbrev pub Served : (ℤ → Type 0) → Option (List ℕ) → Option (List ℕ) → Option (List ℕ) → Option (List ℕ) → Records → Ended → Type 0
Served shows left left' written written' meta how =
    (new : Seen) × Ran (SessionStep shows) most_requests left left' written written' (started meta) new how

-- the same over all the bytes of the input
abbrev pub ServedOver : (ℤ → Type 0) → List ℕ → Option (List ℕ) → Option (List ℕ) → Records → Ended → Type 0
ServedOver shows bytes written written' meta how =
    (new : Seen) × RanOver (SessionStep shows) most_requests bytes written written' (started meta) new how
