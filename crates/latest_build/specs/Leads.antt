-- Tables of which changes a latest part leads on.
use Rattle.std.specs.Prelude.{ℕ, ◌≤◌, List, length, take}
use Rattle.dh_changes.specs.declared.change.Change.{Change}
use Rattle.dh_metadata.specs.declared.held.Records.{Records}
use Rattle.table_rows.specs.Store.{contents_in}
use Rattle.table_build.specs.Listed.{listed_in}
use Rattle.table_build.specs.Log.{writes_of}
use Rattle.table_latest.specs.Latest.{LatestPart}
use Rattle.table_latest.specs.Later.{LeadsTo}

-- from whichever of the first changes the tables stand for, `from` of them or more, the part leads to those of all
abbrev pub LeadsFrom : Records → List Change → LatestPart → Type 0
LeadsFrom r changes latest = (base : ℕ) → latest.from ≤ base → base ≤ length changes
    → LeadsTo (contents_in (listed_in r (writes_of (take base changes)))) latest (contents_in (listed_in r (writes_of changes)))
