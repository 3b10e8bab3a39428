-- What a log shows, and what comes of a change that is brought to it.
use Rattle.std.specs.Prelude.{◌≡◌, ◌≤◌, ◌+◌, ◌++◌, ◌∷◌, [], ℕ, List, length, nat_lt, if◌then◌else◌, Option, None, Some, Result, Ok, Err, IfSome}
use Rattle.std.specs.List.{All, flat_map}
use Rattle.std.specs.Io.KnownBytes.{append_known}
use Rattle.dh_outside.specs.Faults.{Rose}
use Rattle.dh_changes.specs.declared.change.Change.{Change}
use Rattle.dh_changes.specs.declared.change.Write.{Write}
use Rattle.change_log.specs.Bytes.{change_bytes}
use Rattle.change_log.specs.Forms.{WriteFits}
use Rattle.change_log.specs.LogBytes.{log_bytes}
use Rattle.change_log.specs.declared.limits.Limits.{Limits}
use Rattle.change_log.specs.declared.limits.AppendFault.{AppendFault}
use Rattle.change_log.specs.declared.limits.AppendFault.TheVariants.{LogFull, StoreFault, Memory}
use Rattle.dh_base.specs.declared.limits.TheConstants.{MOST_RECORDS, MOST_LOG_BYTES, MOST_UPDATES}

-- the writes of changes, in their order
abbrev pub writes_of : List Change → List Write
writes_of changes = flat_map (λ (change : Change). change.writes) changes

-- the limit that so many writes or bytes pass, that of the writes first
abbrev pub over : Limits → ℕ → ℕ → Option ℕ
over limits writes bytes =
    if nat_lt limits.writes writes then Some limits.writes
    else (if nat_lt limits.bytes bytes then Some limits.bytes else None)

-- the limit that a log of these changes passes
unfoldable pub passed : Limits → List Change → Option ℕ
passed limits changes = over limits (length (writes_of changes)) (length (log_bytes changes))

-- each limit is at most the largest that a server may have
pub record AreLimits (limits : Limits) : Type 0 where
  pub writes : limits.writes ≤ MOST_RECORDS
  pub bytes : limits.bytes ≤ MOST_LOG_BYTES
  pub updates : limits.updates ≤ MOST_UPDATES

-- the changes of the log; of its keeper, how many bytes are acknowledged, those that are kept, where they are told, and
-- how many calls have failed; and the limits
pub record LogSeen : Type 0 where
  pub changes : List Change
  pub acknowledged : ℕ
  pub kept : Option (List ℕ)
  pub faults : ℕ
  pub limits : Limits

-- the keeper has the bytes of the log, and no limit is passed
pub record IsWhole (log : LogSeen) : Type 0 where
  pub acknowledged : log.acknowledged ≡ length (log_bytes log.changes)
  pub kept : IfSome log.kept (λ bytes. bytes ≡ log_bytes log.changes)
  pub within : passed log.limits log.changes ≡ None
  pub limits : AreLimits log.limits
  -- each change has a write
  pub few : length log.changes ≤ length (writes_of log.changes)
  pub fits : All WriteFits (writes_of log.changes)

-- the log with one more change, of which the keeper has the bytes
unfoldable pub with_change : LogSeen → Change → ℕ → LogSeen
with_change log change faults = record {
  changes = log.changes ++ change ∷ [];
  acknowledged = length (log_bytes (log.changes ++ change ∷ []));
  kept = append_known log.kept (change_bytes (length log.changes + 1) change);
  faults = faults;
  limits = log.limits;
}

-- what comes of bringing a change: it stands last and has the log's new length as its number; or the log with it would
-- pass a limit; or the keeper failed, whose count of faults rose; or memory runs out. A fault leaves the log
abbrev pub Appends : LogSeen → Change → Result ℕ AppendFault → LogSeen → Type 0
Appends old change (Ok number) new =
    (passed old.limits (old.changes ++ change ∷ []) ≡ None)
    × ((number ≡ length old.changes + 1) × ((old.faults ≤ new.faults) × (new ≡ with_change old change new.faults)))
Appends old change (Err (LogFull limit)) new = (passed old.limits (old.changes ++ change ∷ []) ≡ Some limit) × (new ≡ old)
Appends old change (Err StoreFault) new =
    (passed old.limits (old.changes ++ change ∷ []) ≡ None)
    × (Rose old.faults new.faults × ((old.faults ≤ new.faults) × (new ≡ record old { faults = new.faults })))
Appends old change (Err Memory) new = new ≡ old

-- keepers of this kind count no fault
abbrev pub NeverFails : {K : Type 0} → (K → ℕ) → Type 0
NeverFails {K} count = (keeper : K) → count keeper ≡ 0
