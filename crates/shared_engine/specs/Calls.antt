-- What a call does to its caller's pass.
use Rattle.std.specs.Prelude.{◌≡◌, ◌≤◌, ◌++◌, ◌∷◌, ◌⊎◌, [], ℕ, List, Result, Ok, Err}
use mathlib.Core.List.{IsPrefix}
use Rattle.dh_base.specs.declared.plain.CutKind.{CutKind}
use Rattle.shared_engine.specs.Views.{own, FirstView, Settled, TokenView}
use Rattle.engine.specs.declared.machine.Staged.{Staged}
use Rattle.engine.specs.declared.machine.CutFault.{CutFault}
use Rattle.engine.specs.declared.machine.CutFault.TheVariants as cut
use Rattle.engine.specs.Machine.Act.{begun, swapped, dropped}
use Rattle.shared_engine.specs.Entries.{Entry, caller_of}
use Rattle.shared_engine.specs.Histories.{Made, IsLegal, stand_of}

-- stands for a pass whose token is away
abbrev pub no_token : TokenView Entry
no_token = record { table = Rattle.shared_engine.specs.Histories.no_table; caller = 0; list = []; told = 0 }

-- stands for the first caller whose token is away
abbrev pub no_first : FirstView Entry
no_first = record { table = Rattle.shared_engine.specs.Histories.no_table; list = []; count = 0; gone = [] }

-- the first caller knows a legal history in which it has no entry itself, with all entries of those who are gone
pub record IsFirst (made : Made) (first : FirstView Entry) : Type 0 where
  pub table : first.table ≡ made.table
  pub legal : IsLegal made first.list
  pub none : own caller_of 0 first.list ≡ []
  pub settled : Settled caller_of first.count first.gone first.list

-- the last of these entries, if there is one
abbrev pub last_of : List Entry → List Entry
last_of [] = []
last_of (entry ∷ []) = entry ∷ []
last_of (entry ∷ other ∷ entries) = last_of (other ∷ entries)

-- the history begins with all that the caller knew, and is legal; of the caller's entries it has those that it had and then these, the
-- last of which ends it; the caller is told what is published after it, which is no lower than what it was told before
pub record IsCall (made : Made) (before now : TokenView Entry) (entries : List Entry) : Type 0 where
  pub table : now.table ≡ before.table
  pub caller : now.caller ≡ before.caller
  pub front : IsPrefix before.list now.list
  pub legal : IsLegal made now.list
  pub mine : own caller_of before.caller now.list ≡ own caller_of before.caller before.list ++ entries
  pub least : before.told ≤ now.told
  pub told : now.told ≡ (stand_of made now.list).machine.published
  pub last : (earlier : List Entry) × (now.list ≡ earlier ++ last_of entries)

-- an update that is begun, and how it ended
abbrev pub IsEnd : ℕ → CutKind → Staged → Result ℕ CutFault → List Entry → Type 0
IsEnd caller kind update (Ok number) entries = (first last : ℕ) × (entries ≡
    record { caller = caller; act = begun kind (Ok update); faults = first }
    ∷ record { caller = caller; act = swapped update.ticket (Ok number); faults = last } ∷ [])
IsEnd caller kind update (Err cut.Memory) entries = (first last : ℕ) × (entries ≡
    record { caller = caller; act = begun kind (Ok update); faults = first } ∷ record { caller = caller; act = dropped update.ticket; faults = last } ∷ [])
IsEnd caller kind update (Err (cut.Busy ticket)) entries = ⊥
IsEnd caller kind update (Err (cut.UpdatesSpent limit)) entries = ⊥

abbrev pub IsRefusedCut : ℕ → CutKind → CutFault → List Entry → Type 0
IsRefusedCut caller kind fault entries = (faults : ℕ) × (entries ≡ record { caller = caller; act = begun kind (Err fault); faults = faults } ∷ [])

-- an update is a cut that is refused with this answer; or a cut with its swap, which answered this number; or, out of memory, a cut with
-- its drop, or nothing
abbrev pub IsUpdate : ℕ → CutKind → Result ℕ CutFault → List Entry → Type 0
IsUpdate caller kind (Ok number) entries = (update : Staged) × IsEnd caller kind update (Ok number) entries
IsUpdate caller kind (Err (cut.Busy ticket)) entries = IsRefusedCut caller kind (cut.Busy ticket) entries
IsUpdate caller kind (Err (cut.UpdatesSpent limit)) entries = IsRefusedCut caller kind (cut.UpdatesSpent limit) entries
IsUpdate caller kind (Err cut.Memory) entries = (entries ≡ []) ⊎ ((update : Staged) × IsEnd caller kind update (Err cut.Memory) entries)
