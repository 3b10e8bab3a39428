-- What the log holds in memory beside its keeper.
use Rattle.std.specs.Prelude.{◌≡◌, ◌≤◌, ◌<◌, ◌+◌, ℕ, List, length, map, vec_len, vec_capacity, Option, Result, Ok, Err}
use Rattle.std.specs.Arc.{arc_value}
use Rattle.std.specs.Io.KnownBytes.{append_known}
use Rattle.dh_outside.specs.Faults.{Rose}
use Rattle.dh_changes.specs.declared.change.Change.{Change}
use Rattle.change_log.specs.LogBytes.{log_bytes}
use Rattle.dh_changes.specs.World.{facts}
use Rattle.dh_changes.specs.Said.{said_by}
use Rattle.dh_changes.specs.Facts.{facts_in}
use Rattle.change_log.specs.declared.limits.Limits.{Limits}
use Rattle.change_log.specs.declared.limits.AppendFault.{AppendFault}
use Rattle.change_log.specs.declared.limits.AppendFault.TheVariants.{LogFull, StoreFault, Memory}
use Rattle.change_log.specs.declared.held.Held.{Held}
use Rattle.change_log.specs.Log.{writes_of, LogSeen, IsWhole}

abbrev pub changes_of : Held → List Change
changes_of held = map arc_value held.changes.items

-- the world holds what the changes say, and writes and bytes are counted
pub record IsHeld (held : Held) : Type 0 where
  pub facts : facts held.world ≡ facts_in (writes_of (changes_of held))
  pub writes : held.writes ≡ length (writes_of (changes_of held))
  pub bytes : held.bytes ≡ length (log_bytes (changes_of held))
  pub few : length held.changes.items ≤ held.writes

-- there is room for one more change, and for what it says
pub record HasRoom (held : Held) (change : Change) : Type 0 where
  pub reserved : held.world.reserved ≡ map said_by change.writes
  pub place : vec_len held.changes < vec_capacity held.changes

-- what the keeper was asked to keep is after what it had, or it has what it had
abbrev pub Keeps : ℕ → ℕ → Option (List ℕ) → Option (List ℕ) → ℕ → ℕ → List ℕ → Result (Unit {0}) AppendFault → Type 0
Keeps old new kept kept' faults faults' bytes (Ok _) = (new ≡ old + length bytes) × ((kept' ≡ append_known kept bytes) × (faults ≤ faults'))
Keeps old new kept kept' faults faults' bytes (Err (LogFull limit)) = ⊥
Keeps old new kept kept' faults faults' bytes (Err StoreFault) = (new ≡ old) × ((kept' ≡ kept) × (Rose faults faults' × (faults ≤ faults')))
Keeps old new kept kept' faults faults' bytes (Err Memory) = (new ≡ old) × ((kept' ≡ kept) × (faults' ≡ faults))

-- the log as it shows itself, of what is held and of what the keeper shows
abbrev pub seen : Held → ℕ → Option (List ℕ) → ℕ → Limits → LogSeen
seen held acknowledged kept faults limits = record { changes = changes_of held; acknowledged = acknowledged; kept = kept; faults = faults; limits = limits }

-- what is held and kept is the log's
pub record IsKept (inner : Held) (log : LogSeen) : Type 0 where
  pub held : IsHeld inner
  pub whole : IsWhole log
