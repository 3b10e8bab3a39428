-- What a world shows: what each key holds, and what is reserved.
use Rattle.std.specs.Prelude.{List}
use Rattle.dh_changes.specs.declared.said.Said.{Said}
use Rattle.dh_changes.specs.Holds.{Held}
use Rattle.dh_changes.specs.Facts.{Facts, facts_of}

pub record Shown : Type 0 where
  pub held : Held
  -- what the writes say for which there is room
  pub reserved : List Said

-- what the world holds
unfoldable pub facts : Shown → Facts
facts shown = facts_of shown.held
