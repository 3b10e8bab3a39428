-- What becomes of the links that are served over one shared engine.
use Rattle.std.specs.Prelude.{◌≡◌, ◌≤◌, ℕ, ℤ, List, [], All, Any, map, Option}
use mathlib.Core.List.{IsPrefix}
use Rattle.dh_outside.specs.Faults.{Rose}
use Rattle.dh_outside.specs.Talk.{Talk}
use Rattle.dh_metadata.specs.declared.held.Records.{Records}
use Rattle.net_doors.specs.Doors.{Shown, IsUntouched}
use Rattle.net_doors.specs.Serving.{HasServed}
use Rattle.net_doors.specs.declared.ending.Ending.{Ending}
use Rattle.shared_engine.specs.Views.{AreApart, TokenView, own}
use Rattle.engine.specs.InMemory.{largest}
use Rattle.request_session.specs.Prompt.{Prompt}
use Rattle.request_session.specs.Session.{Served}
use Rattle.request_session.specs.declared.ended.Ended.{Ended}
use Rattle.request_session.specs.declared.ended.Ended.TheVariants as ended
use Rattle.shared_engine.specs.Entries.{Entry, caller_of}
use Rattle.shared_engine.specs.Histories.{Made, IsLegal}
use Rattle.shared_server.specs.Serving.{most_requests}
use Rattle.shared_server.specs.Steps.{SharedReply}
use Rattle.shared_server.specs.Unseen.{UnseenStays}

-- the system has this metadata, the largest limits, and a keeper without a fault
pub record IsMadeFor (meta : Records) (made : Made) : Type 0 where
  pub meta_is : made.meta ≡ meta
  pub limits_are : made.limits ≡ largest
  pub unfailed : made.opening ≡ 0

-- what a link shows: the bytes left to read and those written, where they are told; in which order it was read and written, if it tells
-- that; and how many of its calls have failed
pub record LinkShown : Type 0 where
  pub left : Option (List ℕ)
  pub written : Option (List ℕ)
  pub talk : Option Talk
  pub faults : ℕ

abbrev pub link_shown : Option (List ℕ) → Option (List ℕ) → Option Talk → ℕ → LinkShown
link_shown left written talk faults = record { left = left; written = written; talk = talk; faults = faults }

-- A link is answered: what was written on it are the replies to all requests in the bytes taken, in order, up to where it ended, and each
-- was written before more was read; out of memory the reply for that stands last. They are those of a caller who has no entry of his own in
-- the history before, which is legal, and who knows the history after. It ended by a fault only if its count of faults rose.
pub record IsAnswered (made : Made) (shows : ℤ → Type 0) (after : TokenView Entry) (came link : LinkShown) : Type 0 where
  pub how : Ended
  pub before : TokenView Entry
  pub alone : own caller_of before.caller before.list ≡ []
  pub legal : IsLegal made before.list
  pub served : Served (SharedReply made shows) most_requests came.left link.left came.written link.written before after how
  pub prompt : Prompt (SharedReply made shows) most_requests came.talk link.talk before
  pub read_fault : how ≡ ended.ReadFault → Rose came.faults link.faults
  pub write_fault : how ≡ ended.WriteFault → Rose came.faults link.faults
  pub keeps : came.faults ≤ link.faults

-- the same of links whose parts show so much
abbrev pub Answered : {N : Type 0} → (ℤ → Type 0) → (N → Option (List ℕ)) → (N → Option (List ℕ)) → (N → Option Talk) → (N → ℕ) → Made
    → TokenView Entry → N → N → Type 0
Answered shows left written talk faults made after came link =
    IsAnswered made shows after (link_shown (left came) (written came) (talk came) (faults came))
    (link_shown (left link) (written link) (talk link) (faults link))

-- links of which nothing was read, and to which nothing was written
abbrev pub Untouched : {N : Type 0} → (N → Option Talk) → (N → ℕ) → N → Type 0
Untouched talk faults link = IsUntouched (talk link) (faults link)

-- a link was accepted with nothing read or written, and is answered for the caller who knows this at its end
abbrev pub Answers : {N : Type 0} → (N → Type 0) → (TokenView Entry → N → N → Type 0) → N → TokenView Entry → Type 0
Answers {N} Untouched Answered link after = (came : N) × Untouched came × Answered after came link

-- The history is that of these callers, of whom no two are the same: what each knows is a beginning of it, with all of the caller's own
-- entries, and it has no entry of anyone else.
pub record IsHistoryOf (callers : List (TokenView Entry)) (whole : List Entry) : Type 0 where
  pub apart : AreApart (map (λ (one : TokenView Entry). one.caller) callers)
  pub fronts : All (λ (one : TokenView Entry). IsPrefix one.list whole × (own caller_of one.caller whole ≡ own caller_of one.caller one.list)) callers
  pub theirs : All (λ (entry : Entry). Any (λ (one : TokenView Entry). caller_of entry ≡ one.caller) callers) whole

-- So many links were accepted, at most as many as are wanted, and accepting ended so. Each was answered, and given back: where the listener
-- tells its links, these stand after those that were there before. The system has one legal history, which is that of the links' callers.
-- What a user doesn't see of the published changes changes no reply to the user's queries and checks.
pub record ServesBy {N : Type 0} (Untouched : N → Type 0) (Answered : Made → TokenView Entry → N → N → Type 0) (before after : Shown N) (made : Made)
    (most count : ℕ) (how : Ending) : Type 0 where
  pub whole : List Entry
  pub legal : IsLegal made whole
  pub callers : List (TokenView Entry)
  pub links : HasServed (Answers Untouched (Answered made)) before after most count how callers
  pub theirs : IsHistoryOf callers whole
  pub unseen : UnseenStays made

-- the same over one system, which is made for the metadata
pub record Serves {N : Type 0} (Untouched : N → Type 0) (Answered : Made → TokenView Entry → N → N → Type 0) (before after : Shown N) (meta : Records)
    (most count : ℕ) (how : Ending) : Type 0 where
  pub made : Made
  pub made_for : IsMadeFor meta made
  pub served : ServesBy Untouched Answered before after made most count how
