-- When tables that are served stand for the first changes of a log.
use Rattle.std.specs.Prelude.{◌≡◌, ◌≤◌, ℕ, List, length, take, drop, Option, None, Some}
use Rattle.dh_changes.specs.declared.change.Change.{Change}
use Rattle.dh_metadata.specs.declared.held.Records.{Records}
use Rattle.table_rows.specs.Store.{contents_in}
use Rattle.table_sums.specs.YearParts.{together, years_in}
use Rattle.table_latest.specs.Latest.{LatestPart}
use Rattle.latest_build.specs.Leads.{LeadsFrom}
use Rattle.latest_build.specs.Touches.{touched_by}
use Rattle.dh_changes.specs.Facts.{facts_in}
use Rattle.change_log.specs.Log.{writes_of}
use Rattle.engine.specs.Tables.{Served, tables_of}

-- a latest part touches what these changes touch after the first `from` of them, and nothing else
abbrev pub TouchesRest : Records → List Change → LatestPart → Type 0
TouchesRest meta changes latest =
    latest.touched ≡ touched_by meta (facts_in (writes_of changes)) (writes_of (take latest.from changes)) (writes_of (drop latest.from changes))

-- a latest part that was begun at the first `base_cut` changes, or before, leads from them to the first `number`
pub record GoesOn (meta : Records) (log : List Change) (base_cut number : ℕ) (latest : LatestPart) : Type 0 where
  pub from : latest.from ≤ base_cut
  pub to : latest.to ≡ number
  pub leads : LeadsFrom meta (take number log) latest
  pub touched : TouchesRest meta (take number log) latest

-- without a latest part the yearly parts stand for as many changes as the tables
abbrev pub GoesTo : Records → List Change → ℕ → ℕ → Option LatestPart → Type 0
GoesTo meta log base_cut number None = base_cut ≡ number
GoesTo meta log base_cut number (Some latest) = GoesOn meta log base_cut number latest

-- tables stand for the first `published` changes of a log: their yearly parts stand for the first `base_cut`, and with a latest part over
-- them they go on from there
pub record Stands (meta : Records) (log : List Change) (base_cut published : ℕ) (tables : Served) : Type 0 where
  pub base : together tables.base.parts ≡ tables_of meta (take base_cut log)
  pub cut : tables.base.base_cut ≡ base_cut
  pub latest : GoesTo meta log base_cut published tables.latest
  pub all : contents_in tables.all ≡ tables_of meta (take published log)
  pub years : tables.all.years ≡ years_in tables.base.parts

-- the same of all changes of a log
abbrev pub LiesOver : Records → List Change → ℕ → Option LatestPart → Type 0
LiesOver meta log base_cut None = base_cut ≡ length log
LiesOver meta log base_cut (Some latest) = (latest.from ≤ base_cut) × LeadsFrom meta log latest
