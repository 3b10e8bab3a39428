-- What the first condition that holds makes of a value or a completion.
use Rattle.std.proofs.Common.{◌≡◌, ◌∙◌, List, [], ◌++◌, Option, Some, None, Result, Ok, Err, IfOk, refl, sym, ap}
use Rattle.std.specs.Option.{option_map_or}
use Rattle.dh_base.specs.declared.codes.Code.{Code}
use Rattle.dh_base.specs.declared.memory.Memory.{Memory}
use Rattle.value_import.specs.declared.judged.Judged.{Judged}
use Rattle.value_import.specs.declared.judged.Judged.TheVariants as judged
use Rattle.value_import.specs.Rules.{Condition, first_of}
use Rattle.value_import.specs.Values.{judged_by}
use Rattle.value_import.proofs.FirstLemmas.{first-here, first-there}

-- where no condition holds, it is taken
pub unrefused-ok : (r : Result Judged Memory) (first : Option Code) (taken : Judged) → None ≡ first → IfOk r (λ j. j ≡ taken)
    → IfOk r (λ j. j ≡ judged_by first taken)
unrefused-ok (Ok j) first taken none is = is ∙ ap (λ o. judged_by o taken) none
unrefused-ok (Err e) first taken none is = is

-- a condition on the names holds
pub judged-refused : (names more : List Condition) (code : Code) (taken : Judged) → first_of names ≡ Some code
    → judged.Refused code ≡ judged_by (first_of (names ++ more)) taken
judged-refused names more code taken is = ap (λ o. judged_by o taken) (first-here names more code (sym is))

-- none of the first conditions holds, and one of the others does
pub judged-refused-there : (first more : List Condition) (code : Code) (taken : Judged) → None ≡ first_of first → Some code ≡ first_of more
    → judged.Refused code ≡ judged_by (first_of (first ++ more)) taken
judged-refused-there first more code taken none is = ap (λ o. judged_by o taken) (first-there first more (Some code) none is)

-- none of both holds
pub judged-taken : (first more : List Condition) (taken j : Judged) → None ≡ first_of first → None ≡ first_of more → j ≡ taken
    → j ≡ judged_by (first_of (first ++ more)) taken
judged-taken first more taken j none beyond is = is ∙ ap (λ o. judged_by o taken) (first-there first more None none beyond)

-- no condition on the names holds, and all of them are there
pub judged-there : {P : Type 0} (names : List Condition) (place : Option P) (there : P → List Condition) (taken : P → Judged) (p : P) (j : Judged)
    → first_of names ≡ None → place ≡ Some p → j ≡ judged_by (first_of (there p)) (taken p)
    → j ≡ judged_by (first_of (names ++ option_map_or there place [])) (option_map_or taken place judged.Ignored)
judged-there names place there taken p j none some is =
    is ∙ ap (λ o. judged_by o (taken p)) (first-there names (there p) (first_of (there p)) (sym none) refl)
    ∙ ap (λ q. judged_by (first_of (names ++ option_map_or there q [])) (option_map_or taken q judged.Ignored)) (sym some)

pub judged-there-ok : {P : Type 0} (r : Result Judged Memory) (names : List Condition) (place : Option P) (there : P → List Condition) (taken : P
    → Judged) (p : P)
    → first_of names ≡ None → place ≡ Some p → IfOk r (λ j. j ≡ judged_by (first_of (there p)) (taken p))
    → IfOk r (λ j. j ≡ judged_by (first_of (names ++ option_map_or there place [])) (option_map_or taken place judged.Ignored))
judged-there-ok (Ok j) names place there taken p none some is = judged-there names place there taken p j none some is
judged-there-ok (Err e) names place there taken p none some is = is
