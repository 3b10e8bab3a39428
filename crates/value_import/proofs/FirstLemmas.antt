-- The first condition of lists that stand one after the other.
use Rattle.std.proofs.Common.{◌≡◌, ◌∙◌, true, false, cond, List, [], ◌∷◌, ◌++◌, Option, Some, None, refl, sym, ap}
use Rattle.std.specs.Option.{option_or}
use Rattle.dh_base.specs.declared.codes.Code.{Code}
use Rattle.value_import.specs.Rules.{Condition, first_of}

pub first_of-append : (xs ys : List Condition) → first_of (xs ++ ys) ≡ option_or (first_of xs) (first_of ys)
first_of-append [] ys = refl
first_of-append (x ∷ xs) ys =
    elim x.1 as (λ b. cond b (Some x.0) (first_of (xs ++ ys)) ≡ option_or (cond b (Some x.0) (first_of xs)) (first_of ys))
    [ true ↦ refl | false ↦ first_of-append xs ys ]

-- a condition of the first list that holds is the first of both
pub first-here : (xs ys : List Condition) (code : Code) → Some code ≡ first_of xs → Some code ≡ first_of (xs ++ ys)
first-here xs ys code is = ap (λ o. option_or o (first_of ys)) is ∙ sym (first_of-append xs ys)

-- where none of the first list holds, the second list counts
pub first-there : (xs ys : List Condition) (found : Option Code) → None ≡ first_of xs → found ≡ first_of ys → found ≡ first_of (xs ++ ys)
first-there xs ys found none is = is ∙ ap (λ o. option_or o (first_of ys)) none ∙ sym (first_of-append xs ys)

pub ruleset firsts = (first-here, first-there)
