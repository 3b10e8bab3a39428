-- Metadata with rights and the tree of the units as changes leave them.
use Rattle.std.specs.Prelude.{List, take}
use Rattle.dh_changes.specs.declared.change.Change.{Change}
use Rattle.dh_metadata.specs.declared.held.Records.{Records}
use Rattle.dh_changes.specs.Facts.{facts_in}
use Rattle.dh_records.specs.Access as known
use Rattle.change_log.specs.Log.{writes_of}
use Rattle.engine.specs.Seen.{Seen}

-- what is asked and what is viewed after a log of changes
unfoldable pub meta_after : Records → List Change → Records
meta_after meta log = known.meta_after (facts_in (writes_of log)) meta

-- rights and the tree are those after the log, of as many users and units
abbrev pub IsAfter : Records → List Change → Records → Type 0
IsAfter meta log after = known.IsAfter (facts_in (writes_of log)) meta after

-- those after the published changes of a machine
abbrev pub published_meta : Seen → Records
published_meta machine = meta_after machine.meta (take machine.state.published machine.state.log)
