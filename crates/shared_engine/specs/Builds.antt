-- The parts of an update's years, which are built outside the lock.
use Rattle.std.specs.Prelude.{◌≡◌, ◌≤◌, ℕ, ℤ, true, List, length, map, take, Option, IfSome, ⊤}
use Rattle.std.specs.Arc.{arc_value}
use Rattle.std.specs.List.{All}
use Rattle.dh_base.specs.declared.limits.TheConstants.{MOST_RECORDS}
use Rattle.dh_base.specs.declared.plain.CutKind.{CutKind}
use Rattle.dh_base.specs.declared.plain.CutKind.TheVariants.{Full, Latest}
use Rattle.dh_changes.specs.declared.change.Change.{Change}
use Rattle.dh_metadata.specs.declared.held.Records.{Records}
use Rattle.change_log.specs.Forms.{WriteFits}
use Rattle.change_log.specs.Log.{writes_of}
use Rattle.table_sums.specs.YearParts.{YearPart, part_of}
use Rattle.engine.specs.declared.machine.Cut.{Cut}
use Rattle.engine.specs.Machine.{has_ticket, number_in}
use Rattle.engine.specs.Seen.{Seen, IsPartOf}
use Rattle.engine.specs.Tables.{tables_of}
use Rattle.shared_engine.specs.Entries.{Entry}
use Rattle.shared_engine.specs.Histories.{Made, IsBegunBy}
use Rattle.shared_engine.specs.Ends.{staged_in}

-- tables can be made of these changes: they have few enough writes, each of which fits into a record
pub record CanBuild (changes : List Change) : Type 0 where
  pub few : length (writes_of changes) ≤ MOST_RECORDS
  pub fits : All WriteFits (writes_of changes)

-- metadata and changes, of which tables are made
pub record Building : Type 0 where
  pub meta : Records
  pub changes : List Change

-- the part of a year, of what these changes leave
abbrev pub IsYearOf : Records → List Change → ℤ → YearPart → Type 0
IsYearOf meta changes year part = part ≡ part_of (tables_of meta changes) year

-- each part that is there is that of its year, of what these changes leave
abbrev pub ArePartsOf : Records → List Change → List (Option YearPart) → Type 0
ArePartsOf meta changes parts = All (λ (part : Option YearPart). IfSome part (IsPartOf meta changes)) parts

-- parts that may be handed in for the update of a kind with this ticket: those of what the changes of a full one leave
abbrev pub HasParts : Seen → CutKind → ℕ → List (Option YearPart) → Type 0
HasParts seen Full ticket parts =
    (has_ticket ticket seen.state.full ≡ true) × ArePartsOf seen.meta (take (number_in seen.state.full) seen.state.log) parts
HasParts seen Latest ticket parts = ⊤

-- the update of a cut is begun, and it is this caller's; the cut of a full one has all changes before it
pub record IsCutBy (made : Made) (entries : List Entry) (caller : ℕ) (cut : Cut) : Type 0 where
  pub log : List Change
  pub begun : IsBegunBy made entries caller cut.kind (staged_in cut) log
  pub whole : cut.kind ≡ Full → map arc_value cut.changes.items ≡ log
