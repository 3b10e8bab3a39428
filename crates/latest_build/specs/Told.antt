-- What writes say that keys of values hold, each at its place.
use Rattle.std.specs.Prelude.{ℕ, List, Option, None, Some, option_map}
use Rattle.dh_changes.specs.declared.change.Write.{Write}
use Rattle.dh_changes.specs.declared.change.Write.TheVariants as write
use Rattle.dh_changes.specs.declared.keys.ValueKey.{ValueKey}
use Rattle.dh_metadata.specs.declared.held.Records.{Records}
use Rattle.dh_changes.specs.Facts.{Facts}
use Rattle.table_build.specs.declared.values.ValueObjects.{ValueObjects}
use Rattle.table_build.specs.Values as values
use Rattle.latest_build.specs.Held.{Held}
use Rattle.latest_build.specs.Places.{value_at}

-- the place of a key whose objects have these numbers, and the row of a text there, or none where the value is cleared
unfoldable pub held_as : Records → Facts → ValueKey → Option (List ℕ) → ValueObjects → Held
held_as r facts key text objects = record {
  place = value_at r facts key objects;
  row = option_map (λ t. values.row_with r facts key t objects) text;
}

-- the same of a key whose objects stand in the metadata
unfoldable pub held_told : Records → Facts → ValueKey → Option (List ℕ) → Option Held
held_told r facts key text = option_map (held_as r facts key text) (values.objects_of r key)

-- what a write of a value says
unfoldable pub held_by_write : Records → Facts → Write → Option Held
held_by_write r facts (write.ValueSet key text) = held_told r facts key (Some text)
held_by_write r facts (write.ValueCleared key) = held_told r facts key None
held_by_write r facts _ = None
