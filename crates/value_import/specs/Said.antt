-- What keys hold while a request is judged: what the last of the writes accepted so far says, else what the log says.
use Rattle.std.specs.Prelude.{◌≡◌, Bool, List, map, option_map}
use Rattle.std.specs.Option.{unwrap_or, is_some, option_or}
use Rattle.std.specs.HashMap.{HashMap, get}
use Rattle.dh_changes.specs.Keys.{same_value_key, same_reg_key}
use Rattle.dh_changes.specs.declared.change.Write.{Write}
use Rattle.dh_changes.specs.declared.keys.ValueKey.{ValueKey}
use Rattle.dh_changes.specs.declared.keys.RegKey.{RegKey}
use Rattle.dh_changes.specs.Facts.{Facts}
use Rattle.dh_changes.specs.Said.{said_by, last_said, of_value, of_registration}

-- the key holds a value
unfoldable pub holds_value : Facts → List Write → ValueKey → Bool
holds_value facts accepted key = is_some (unwrap_or (last_said (of_value key) (map said_by accepted)) (facts.value key))

-- the key holds a registration
unfoldable pub holds_registration : Facts → List Write → RegKey → Bool
holds_registration facts accepted key = is_some (unwrap_or (last_said (of_registration key) (map said_by accepted)) (facts.registration key))

-- maps that have, for each key that the writes name, whether the last of these has it hold something
pub record AreSaid {S T : Type 0} (held : HashMap ValueKey Bool S) (registered : HashMap RegKey Bool T) (writes : List Write) : Type 0 where
  pub values : (key : ValueKey) → get same_value_key held key ≡ option_map is_some (last_said (of_value key) (map said_by writes))
  pub registrations : (key : RegKey) → get same_reg_key registered key ≡ option_map is_some (last_said (of_registration key) (map said_by writes))

-- the new maps have what a write says beside what the old ones had
pub record IsNoted {S T : Type 0} (write : Write) (old : HashMap ValueKey Bool S × HashMap RegKey Bool T) (new : HashMap ValueKey Bool S
    × HashMap RegKey Bool T) : Type 0 where
  pub values : (key : ValueKey) → get same_value_key new.0 key ≡ option_or (option_map is_some (of_value key (said_by write))) (get same_value_key old.0 key)
  pub registrations : (key : RegKey)
      → get same_reg_key new.1 key ≡ option_or (option_map is_some (of_registration key (said_by write))) (get same_reg_key old.1 key)
