-- A run of one machine told as a run of another, along a function of its states.
use Rattle.std.proofs.Common.{◌+◌, ℕ, Bool, List, [], ◌∷◌, Option, sym, ap, subst}
use Rattle.http_wire.specs.declared.request.Request.{Request}
use Rattle.request_session.specs.Along.{Carries}
use Rattle.request_session.specs.Session.{Replies, Session, Ran, RanOver, keeps}
use Rattle.request_session.specs.declared.ended.Ended.{Ended}

pub replies_along : {M N : Type 0} (f : M → N) (Known : M → Type 0) (step : M → Request → Bool → List ℕ → M → Type 0) (step' : N → Request → Bool → List ℕ → N
    → Type 0)
    → Carries f Known step step' → (most before : ℕ) (old new : M) (requests : List Request) (text : List ℕ) → Known old
    → Replies step most before old requests text new
    → (Replies step' most before (f old) requests text (f new)) × Known new
replies_along f Known step step' carries most before old new [] text known given = ((given.0, ap f given.1), subst Known (sym given.1) known)
replies_along f Known step step' carries most before old new (request ∷ requests) text known given =
    let first = carries old given.2 request (keeps most before request) given.0 known given.3 in
    let beyond = replies_along f Known step step' carries most (before + 1) given.2 new requests given.1 first.1 given.4 in
    ((given.0, given.1, f given.2, first.0, beyond.0, given.5), beyond.1)

pub session_along : {M N : Type 0} (f : M → N) (Known : M → Type 0) (step : M → Request → Bool → List ℕ → M → Type 0) (step' : N → Request → Bool → List ℕ → N
    → Type 0)
    → Carries f Known step step' → (most : ℕ) (bytes : List ℕ) (Spent : Type 0) (old new : M) (how : Ended) (text : List ℕ) → Known old
    → Session step most bytes Spent old new how text
    → Session step' most bytes Spent (f old) (f new) how text × Known new
session_along f Known step step' carries most bytes Spent old new how text known session =
    let along = replies_along f Known step step' carries most 0 old new session.requests session.replies known session.served in (
      record {
        requests = session.requests;
        rest = session.rest;
        found = session.found;
        replies = session.replies;
        served = along.0;
        last = session.last;
        ends = session.ends;
        whole = session.whole;
      },
      along.1,
    )

pub ran_along : {M N : Type 0} (f : M → N) (Known : M → Type 0) (step : M → Request → Bool → List ℕ → M → Type 0) (step' : N → Request → Bool → List ℕ → N
    → Type 0)
    → Carries f Known step step' → (most : ℕ) (left left' written written' : Option (List ℕ)) (old new : M) (how : Ended) → Known old
    → Ran step most left left' written written' old new how
    → Ran step' most left left' written written' (f old) (f new) how × Known new
ran_along f Known step step' carries most left left' written written' old new how known ran =
    let along = session_along f Known step step' carries most ran.taken _ old new how ran.text known ran.session in (
      record {
        taken = ran.taken;
        consumed = ran.consumed;
        bound = ran.bound;
        text = ran.text;
        session = along.0;
        writes = ran.writes;
      },
      along.1,
    )

pub ran_over_along : {M N : Type 0} (f : M → N) (Known : M → Type 0) (step : M → Request → Bool → List ℕ → M → Type 0) (step' : N → Request → Bool → List ℕ → N
    → Type 0)
    → Carries f Known step step' → (most : ℕ) (bytes : List ℕ) (written written' : Option (List ℕ)) (old new : M) (how : Ended) → Known old
    → RanOver step most bytes written written' old new how
    → (RanOver step' most bytes written written' (f old) (f new) how) × Known new
ran_over_along f Known step step' carries most bytes written written' old new how known ran =
    let along = session_along f Known step step' carries most _ _ old new how ran.0 known ran.1 in
    ((ran.0, along.0, ran.2), along.1)
