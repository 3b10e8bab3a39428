-- Legal histories of one system, made for one metadata and one set of limits, over a keeper that had so many faults when it began.
use Rattle.std.specs.Prelude.{◌≡◌, ◌≤◌, ℕ, List, [], false, map, take, length, None, Some}
use Rattle.atomic_table.specs.Seated.{TableId}
use Rattle.shared_engine.specs.Views.{LockView}
use Rattle.dh_metadata.specs.declared.held.Records.{Records}
use Rattle.change_log.specs.declared.limits.Limits.{Limits}
use Rattle.dh_base.specs.declared.plain.CutKind.{CutKind}
use Rattle.dh_changes.specs.declared.change.Change.{Change}
use Rattle.engine.specs.declared.machine.Staged.{Staged}
use Rattle.engine.specs.Machine.{start, Act, staged_of}
use Rattle.engine.specs.Seen.{Seen}
use Rattle.shared_engine.specs.Entries.{Entry, Stand, after_entries, IsLegalFrom}

-- which words count the history, and what the system is made for
pub record Made : Type 0 where
  pub table : TableId
  pub meta : Records
  pub limits : Limits
  pub opening : ℕ

abbrev pub no_table : TableId
no_table = record { words = 0; slots = 0; views_name = 0; atom = 0; block = 0; offset = 0; slot_names = [] }

abbrev pub no_records : Records
no_records = record {
  organisation_units = [];
  organisation_unit_groups = [];
  category_options = [];
  categories = [];
  category_combos = [];
  category_option_combos = [];
  data_elements = [];
  data_approval_levels = [];
  data_approval_workflows = [];
  data_sets = [];
  constants = [];
  indicator_types = [];
  indicators = [];
  validation_rules = [];
  tracked_entity_types = [];
  tracked_entity_attributes = [];
  programs = [];
  program_stages = [];
  program_indicators = [];
  user_roles = [];
  users = [];
  user_groups = [];
  api_tokens = [];
  acceptance_required = false;
}

-- stands for a system where none is named
abbrev pub nothing_made : Made
nothing_made = record { table = no_table; meta = no_records; limits = record { writes = 0; bytes = 0; updates = 0 }; opening = 0 }

abbrev pub begin : ℕ → Stand
begin opening = record { machine = start; faults = opening; owner = λ ticket. None }

abbrev pub stand_of : Made → List Entry → Stand
stand_of made entries = after_entries made.meta (begin made.opening) entries

abbrev pub IsLegal : Made → List Entry → Type 0
IsLegal made entries = IsLegalFrom made.meta made.limits (begin made.opening) entries

-- an engine stands where a legal history leaves the machine
pub record StandsAt (made : Made) (engine : Seen) (entries : List Entry) : Type 0 where
  pub meta : engine.meta ≡ made.meta
  pub limits : engine.limits ≡ made.limits
  pub legal : IsLegal made entries
  pub state : engine.state ≡ (stand_of made entries).machine
  pub faults : engine.faults ≡ (stand_of made entries).faults

-- what lies under the lock while nobody has it: the number that was told last is the published one, and no caller is taken in
pub record IsRunning (made : Made) (engine : Seen) (lock : LockView Entry) : Type 0 where
  pub table : lock.table ≡ made.table
  pub nobody : lock.taken ≡ None
  pub stands : StandsAt made engine lock.list
  pub told : lock.told ≡ engine.state.published

-- this update of a kind is begun, and it is this caller's; these are the changes before its cut
pub record IsBegunBy (made : Made) (entries : List Entry) (caller : ℕ) (kind : CutKind) (update : Staged) (changes : List Change) : Type 0 where
  pub begun : staged_of (stand_of made entries).machine kind ≡ Some update
  pub given : update.ticket ≤ (stand_of made entries).machine.ticket
  pub owner : (stand_of made entries).owner update.ticket ≡ Some caller
  pub there : update.number ≤ length (stand_of made entries).machine.log
  pub before : take update.number (stand_of made entries).machine.log ≡ changes

abbrev pub acts_of : List Entry → List Act
acts_of entries = map (λ (entry : Entry). entry.act) entries
