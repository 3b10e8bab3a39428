-- Numbers of units as places of the tree.
use Rattle.std.proofs.Common.{◌≡◌, ℕ, ◌<◌, List, length, sym, subst}
use Rattle.std.proofs.lemmas.List.{length-map}
use Rattle.org_tree.specs.Units.{UnitRow}
use Rattle.dh_metadata.specs.declared.held.Records.{Records}
use Rattle.dh_metadata.specs.Approval.{unit_rows}
use Rattle.dh_metadata.specs.Linked.{AreBelow}
use Rattle.query_lang.specs.Walk.{AreIn}

pub rows_length : (r : Records) → length (unit_rows r) ≡ length r.organisation_units
rows_length r = length-map r.organisation_units _

pub views_in : (r : Records) (us : List UnitRow) (views : List ℕ) → us ≡ unit_rows r → AreBelow (length r.organisation_units) views → AreIn (length us) views
views_in r us views is below =
    let P : List UnitRow → Type 0 = λ rows. AreIn (length rows) views in
    let Q : ℕ → Type 0 = λ end. AreIn end views in
    subst P (sym is) (subst Q (sym (rows_length r)) below.each)

pub unit_in : (r : Records) (us : List UnitRow) (unit : ℕ) → us ≡ unit_rows r → unit < length r.organisation_units → unit < length us
unit_in r us unit is below =
    let P : List UnitRow → Type 0 = λ rows. unit < length rows in
    let Q : ℕ → Type 0 = λ end. unit < end in
    subst P (sym is) (subst Q (sym (rows_length r)) below)
