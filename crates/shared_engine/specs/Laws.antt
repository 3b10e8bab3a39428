-- What follows for every legal history.
use Rattle.std.specs.Prelude.{◌≡◌, ◌≤◌, ◌++◌, ◌∷◌, [], ℕ, List, Ok}
use Rattle.dh_base.specs.declared.plain.CutKind.{CutKind}
use Rattle.dh_changes.specs.declared.change.Change.{Change}
use Rattle.shared_engine.specs.Views.{own, TokenView}
use Rattle.engine.specs.declared.machine.Staged.{Staged}
use Rattle.engine.specs.Machine.Act.{looked}
use Rattle.engine.specs.Histories.{last_swap}
use Rattle.shared_engine.specs.Entries.{Entry, caller_of}
use Rattle.shared_engine.specs.Histories.{Made, IsLegal, stand_of, acts_of, IsBegunBy}
use Rattle.shared_engine.specs.Calls.{IsCall}

-- each look is answered from the tables of the last swap before it, which stand for no fewer changes than the caller asked for
abbrev pub LooksAreRight : Type 0
LooksAreRight =
    (made : Made) (before later : List Entry) (look : Entry) (asked number : ℕ) → IsLegal made (before ++ look ∷ later) → look.act ≡ looked asked (Ok number)
    → (number ≡ last_swap 0 (acts_of before)) × (asked ≤ number)

-- what is published never falls
abbrev pub PublishedRises : Type 0
PublishedRises =
    (made : Made) (before later : List Entry) → IsLegal made (before ++ later)
    → (stand_of made before).machine.published ≤ (stand_of made (before ++ later)).machine.published

-- an update stays begun, and its caller's, and the changes before its cut stay, while the caller adds no entry
abbrev pub UpdatesStay : Type 0
UpdatesStay =
    (made : Made) (before later : List Entry) (caller : ℕ) (kind : CutKind) (update : Staged) (changes : List Change) → IsLegal made (before ++ later)
    → IsBegunBy made before caller kind update changes → own caller_of caller later ≡ [] → IsBegunBy made (before ++ later) caller kind update changes

-- the entry of a look by a caller, which answers so many published changes
abbrev pub look_by : ℕ → ℕ → ℕ → ℕ → Entry
look_by caller asked number faults = record { caller = caller; act = looked asked (Ok number); faults = faults }

-- a look is answered from the tables that the last swap before it published, and these stand for no fewer changes than the caller asked
-- for, and for no fewer than any number that the caller was told before
pub record IsCurrent (before now : TokenView Entry) (asked number faults : ℕ) : Type 0 where
  pub earlier : List Entry
  pub ends : now.list ≡ earlier ++ look_by before.caller asked number faults ∷ []
  pub swapped : number ≡ last_swap 0 (acts_of earlier)
  pub asked_for : asked ≤ number
  pub known : before.told ≤ number
  pub told : now.told ≡ number

abbrev pub LooksAreCurrent : Type 0
LooksAreCurrent =
    (made : Made) (before now : TokenView Entry) (asked number faults : ℕ)
    → IsCall made before now (look_by before.caller asked number faults ∷ []) → IsCurrent before now asked number faults
