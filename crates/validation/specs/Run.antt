-- A check, and why it gives no violations.
use Rattle.std.specs.Prelude.{◌≡◌, ℕ, ◌<◌, Bool, true, false, List, [], ◌∷◌, ◌++◌, length, Option, Some, None, ⊤}
use Rattle.dh_base.specs.Fractions.{Fraction}
use Rattle.dh_metadata.specs.declared.held.Records.{Records}
use Rattle.table_rows.specs.Store.{Contents}
use Rattle.cell_values.specs.Held.{View, IsSeer, AreCellUnits}
use Rattle.cell_values.specs.Seen.{seen_of}
use Rattle.validation.specs.declared.checks.CheckFault.{CheckFault}
use Rattle.validation.specs.declared.checks.CheckFault.TheVariants.{Wide, Memory}
use Rattle.validation.specs.declared.known.ItemKey.{ItemKey}
use Rattle.validation.specs.declared.outcome.Outcome.{Outcome}
use Rattle.validation.specs.declared.outcome.Outcome.TheVariants as outcome
use Rattle.validation.specs.declared.outcome.Violation.{Violation}
use Rattle.validation.specs.declared.place.Place.{Place}
use Rattle.validation.specs.declared.spot.Spot.{Spot}
use Rattle.validation.specs.Check.{given_at}
use Rattle.validation.specs.Known.{AreKnown}

-- the user is one of the metadata, and so are the data set and the unit
pub record IsChecking (r : Records) (view : View) (place : Place) : Type 0 where
  pub seer : IsSeer r view
  pub set : place.set < length r.data_sets
  pub unit : place.unit < length r.organisation_units

-- what is checked, as a cell: its one period, and its unit alone
pub record IsSpot (r : Records) (view : View) (spot : Spot) : Type 0 where
  pub checking : IsChecking r view spot.place
  pub periods : spot.periods ≡ spot.place.period ∷ []
  pub units : spot.units.units ≡ spot.place.unit ∷ []
  pub alone : spot.units.alone ≡ true
  pub cell : AreCellUnits r view.user spot.units

-- the values that are known are those of their items at the place
abbrev pub AreKnownAt : Records → View → Contents → Place → List (ItemKey × Option Fraction) → Type 0
AreKnownAt r view held place known = AreKnown (given_at r (seen_of r view.user held) place) known

-- the identifier of the first rule that is too wide; running out of memory has no cause
abbrev pub cause_of : CheckFault → Option (List ℕ)
cause_of (Wide id) = Some id
cause_of Memory = None

-- the violation is one of a rule of the metadata
abbrev pub IsRuleOf : Records → Violation → Type 0
IsRuleOf r violation = violation.rule < length r.validation_rules

abbrev pub is_wide_outcome : Outcome → Bool
is_wide_outcome outcome.Wide = true
is_wide_outcome outcome.Kept = false
is_wide_outcome (outcome.Violated violation) = false

abbrev pub violation_in : Outcome → Option Violation
violation_in outcome.Wide = None
violation_in outcome.Kept = None
violation_in (outcome.Violated violation) = Some violation

-- a violation more, where there is one
abbrev pub with_violation : Option Violation → List Violation → List Violation
with_violation None violations = violations
with_violation (Some violation) violations = violations ++ violation ∷ []

-- what comes of a rule that is there
abbrev pub IsOutcomeOf : Records → ℕ → Outcome → Type 0
IsOutcomeOf r n outcome.Wide = n < length r.validation_rules
IsOutcomeOf r n outcome.Kept = ⊤
IsOutcomeOf r n (outcome.Violated violation) = IsRuleOf r violation
