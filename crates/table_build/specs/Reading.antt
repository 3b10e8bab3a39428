-- What is read of a log once, for the parts of all its years.
use Rattle.std.specs.Prelude.{◌≡◌, List}
use Rattle.dh_changes.specs.declared.change.Change.{Change}
use Rattle.dh_changes.specs.declared.keys.RegKey.{RegKey}
use Rattle.dh_changes.specs.Facts.{Facts, facts_in}
use Rattle.table_build.specs.declared.events.EventPlace.{EventPlace}
use Rattle.table_build.specs.Events.{places_of}
use Rattle.table_build.specs.Log.{writes_of, regs_named, events_named, with_others}

-- this is known after those of the changes that write something else than data values, and these are the keys and the places of events
-- that they name
pub record IsReadOf (changes : List Change) (known : Facts) (regs : List RegKey) (places : List EventPlace) : Type 0 where
  pub holds : known ≡ facts_in (writes_of (with_others changes))
  pub reg_keys : regs ≡ regs_named (writes_of (with_others changes))
  pub event_places : places ≡ places_of known (events_named (writes_of (with_others changes)))
