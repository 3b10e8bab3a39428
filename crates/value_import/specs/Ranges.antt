-- Numbers that are those of objects.
use Rattle.std.specs.Prelude.{◌≡◌, ◌<◌, List, length, Option, Some, None, Result, Ok, Err}
use Rattle.dh_base.specs.declared.codes.Code.{Code}
use Rattle.dh_metadata.specs.declared.held.Records.{Records}
use Rattle.dh_metadata.specs.Linked.{IsBelow}
use Rattle.value_import.specs.declared.place.Place.{Place}
use Rattle.value_import.specs.declared.place.ValuePlace.{ValuePlace}
use Rattle.value_import.specs.declared.place.ValueNames.{ValueNames}
use Rattle.value_import.specs.declared.place.RegNames.{RegNames}
use Rattle.value_import.specs.Rules.{Condition, first_of}

pub record IsWithin (r : Records) (place : Place) : Type 0 where
  pub unit : place.unit < length r.organisation_units
  pub set : place.set < length r.data_sets
  pub attribute : place.attribute < length r.category_option_combos

pub record IsValueWithin (r : Records) (place : ValuePlace) : Type 0 where
  pub element : place.element < length r.data_elements
  pub combo : place.combo < length r.category_option_combos
  pub at : IsWithin r place.at

pub record AreWithin (r : Records) (names : ValueNames) : Type 0 where
  pub element : IsBelow (length r.data_elements) names.element
  pub unit : IsBelow (length r.organisation_units) names.unit
  pub set : IsBelow (length r.data_sets) names.set
  pub combo : IsBelow (length r.category_option_combos) names.combo
  pub attribute : IsBelow (length r.category_option_combos) names.attribute

pub record AreRegWithin (r : Records) (names : RegNames) : Type 0 where
  pub unit : IsBelow (length r.organisation_units) names.unit
  pub set : IsBelow (length r.data_sets) names.set
  pub attribute : IsBelow (length r.category_option_combos) names.attribute

-- no condition holds and this is the place, or the code is that of the first condition that holds
abbrev pub Finds : {P : Type 0} → List Condition → Option P → Result P Code → Type 0
Finds conditions place (Ok found) = (first_of conditions ≡ None) × (place ≡ Some found)
Finds conditions place (Err code) = first_of conditions ≡ Some code
