-- Sets of samples, which the loader brings to the log of a machine in memory, one after the other.
use Rattle.std.specs.Prelude.{◌≡◌, ◌≤◌, ◌+◌, ℕ, ℤ, List, [], ◌∷◌, map, None, Result, Ok, Err}
use Rattle.dh_base.specs.declared.codes.Refusal.{Refusal}
use Rattle.dh_changes.specs.declared.change.Change.{Change}
use Rattle.dh_metadata.specs.declared.held.Records.{Records}
use Rattle.engine.specs.Requests.{Asked}
use Rattle.engine.specs.declared.request.ChangeRequest.TheVariants.{Values}
use Rattle.engine.specs.declared.machine.Report.{Report}
use Rattle.engine.specs.Machine.{judged_in, log_by}
use Rattle.engine.specs.Seen.{Seen}
use Rattle.engine.specs.InMemory.{largest, loading, outcome_of}
use Rattle.offline_replies.specs.declared.samples.draws.Sample.{Sample}
use Rattle.offline_replies.specs.Load.{set_of}
use Rattle.offline_replies.specs.Sets.{value_of}

-- the loader asks for the import of some samples at a moment
abbrev pub asked_for : ℤ → List Sample → Asked
asked_for moment samples = loading moment (Values (set_of (map value_of samples)))

-- the log by what that comes to: a set for which the log has no room leaves it
abbrev pub log_after : Records → List Change → Asked → Result Report Refusal → List Change
log_after r log asked (Ok report) = log_by r log asked (judged_in r log asked)
log_after r log asked (Err refused) = log

-- the log after one set of samples more
unfoldable pub with_set : Records → ℤ → List Change → List Sample → List Change
with_set r moment log samples = log_after r log (asked_for moment samples) (outcome_of r largest log (asked_for moment samples))

-- the log that sets of samples leave after another
abbrev pub log_with : Records → ℤ → List Change → List (List Sample) → List Change
log_with r moment log [] = log
log_with r moment log (set ∷ more) = log_with r moment (with_set r moment log set) more

-- a machine in memory over these metadata, to which changes were brought, and at most so many updates made; none is begun
pub record HasLoaded (r : Records) (updates : ℕ) (machine : Seen) : Type 0 where
  pub meta : machine.meta ≡ r
  pub limits : machine.limits ≡ largest
  pub full : machine.state.full ≡ None
  pub latest : machine.state.latest ≡ None
  pub ticket : machine.state.ticket ≤ updates
  pub faults : machine.faults ≡ 0

-- a latest update was made: the log stays, and no update is begun
pub record IsUpdated (old new : Seen) : Type 0 where
  pub meta : new.meta ≡ old.meta
  pub limits : new.limits ≡ old.limits
  pub log : new.state.log ≡ old.state.log
  pub full : new.state.full ≡ None
  pub latest : new.state.latest ≡ None
  pub ticket : new.state.ticket ≡ old.state.ticket + 1
  pub faults : new.faults ≡ old.faults
