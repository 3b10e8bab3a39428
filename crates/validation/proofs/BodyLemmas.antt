-- No number of the body is a float.
use Rattle.std.proofs.Common.{◌≡◌, List, [], ◌∷◌, Bool, true, false, ◌||◌, Option, Some, None, refl}
use Rattle.serde_json.specs.View.{items_of}
use Rattle.serde_json.specs.Written.{has_float, items_have_float}
use Rattle.dh_base.specs.Fractions.{Fraction}
use Rattle.dh_metadata.specs.declared.held.Records.{Records}
use Rattle.validation.specs.declared.outcome.Violation.{Violation}
use Rattle.validation.specs.Body.{side_of, violation_with, violation_of, violations_of, body_of}

both_false : (a b : Bool) → a ≡ false → b ≡ false → (a || b) ≡ false
both_false true b p q = p
both_false false b p q = q

side-plain : (side : Option Fraction) → has_float (side_of side) ≡ false
side-plain None = refl
side-plain (Some value) = refl

violation-plain : (r : Records) (v : Violation) → has_float (violation_of r v) ≡ false
unfolding violation_with
violation-plain r v = both_false _ _ refl (both_false _ _ (side-plain v.left) (both_false _ _ (side-plain v.right) refl))

violations-plain : (r : Records) (vs : List Violation) → items_have_float (items_of (violations_of r vs)) ≡ false
violations-plain r [] = refl
violations-plain r (v ∷ vs) = both_false _ _ (violation-plain r v) (violations-plain r vs)

pub body-plain : (r : Records) (vs : List Violation) → has_float (body_of r vs) ≡ false
unfolding body_of
body-plain r vs = both_false _ _ (violations-plain r vs) refl
