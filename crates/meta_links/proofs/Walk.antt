-- The first unknown reference of lists that stand one after the other.
use Rattle.std.proofs.Common.{◌≡◌, ◌∙◌, ℕ, ◌+◌, ◌<◌, true, false, cond, List, [], ◌∷◌, ◌++◌, length, get_or, drop, Option, Some, None, refl, sym, ap}
use Rattle.std.specs.Option.{option_or}
use Rattle.std.specs.List.{flat_map}
use Rattle.std.proofs.lemmas.List.{drop_more}
use Rattle.meta_links.specs.Reference.{Reference, is_known, first_unknown, each}
use Rattle.meta_links.specs.Told.{after}

unknown_append : (ids : List (List (List ℕ))) (front rest : List Reference)
    → first_unknown ids (front ++ rest) ≡ option_or (first_unknown ids front) (first_unknown ids rest)
unfolding first_unknown
unknown_append ids [] rest = refl
unknown_append ids (reference ∷ front) rest =
    elim (is_known ids reference) as (λ b. cond b (first_unknown ids (front ++ rest)) (Some (reference.uid, reference.path))
    ≡ option_or (cond b (first_unknown ids front) (Some (reference.uid, reference.path))) (first_unknown ids rest))
    [ true ↦ unknown_append ids front rest | false ↦ refl ]

or_twice : {A : Type 0} (x y z : Option A) → option_or x (option_or y z) ≡ option_or (option_or x y) z
or_twice None y z = refl
or_twice (Some a) y z = refl

or_none : {A : Type 0} (x : Option A) → option_or x None ≡ x
or_none None = refl
or_none (Some a) = refl

-- no reference changes nothing
pub after_none : (ids : List (List (List ℕ))) (met : Option (List ℕ × List ℕ)) → after ids met [] ≡ met
unfolding after first_unknown
after_none ids met = or_none met

-- first the front, then the rest
pub after_append : (ids : List (List (List ℕ))) (met : Option (List ℕ × List ℕ)) (front rest : List Reference)
    → after ids met (front ++ rest) ≡ after ids (after ids met front) rest
unfolding after
after_append ids met front rest = ap (option_or met) (unknown_append ids front rest) ∙ or_twice met (first_unknown ids front) (first_unknown ids rest)

-- where none was met before
pub after_nothing : (ids : List (List (List ℕ))) (references : List Reference) → after ids None references ≡ first_unknown ids references
unfolding after
after_nothing ids references = refl

-- the entries of a list from a place on: the first of them, and the others
pub each_more : {X : Type 0} (ids : List (List (List ℕ))) (has : ℕ → X
    → List Reference) (place : ℕ) (xs : List X) (i : ℕ) (x : X) (whole met new : Option (List ℕ × List ℕ))
    → i < length xs → x ≡ get_or xs i x → whole ≡ after ids met (each has place (drop i xs)) → new ≡ after ids met (has place x)
    → whole ≡ after ids new (each has (place + 1) (drop (i + 1) xs))
each_more {X = X} ids has place xs i x whole met new within is so_far more =
    so_far ∙ ap (λ l. after ids met (each has place l)) (drop_more xs i x within)
    ∙ ap (λ (y : X). after ids met (has place y ++ each has (place + 1) (drop (i + 1) xs))) (sym is)
    ∙ after_append ids met (has place x) (each has (place + 1) (drop (i + 1) xs)) ∙ ap (λ m. after ids m (each has (place + 1) (drop (i + 1) xs))) (sym more)

-- the same of objects, whose references have their places in themselves
pub flat_more : {X : Type 0} (ids : List (List (List ℕ))) (has : X → List Reference) (xs : List X) (i : ℕ) (x : X) (whole met new : Option (List ℕ × List ℕ))
    → i < length xs → x ≡ get_or xs i x → whole ≡ after ids met (flat_map has (drop i xs)) → new ≡ after ids met (has x)
    → whole ≡ after ids new (flat_map has (drop (i + 1) xs))
flat_more {X = X} ids has xs i x whole met new within is so_far more =
    so_far ∙ ap (λ l. after ids met (flat_map has l)) (drop_more xs i x within)
    ∙ ap (λ (y : X). after ids met (has y ++ flat_map has (drop (i + 1) xs))) (sym is)
    ∙ after_append ids met (has x) (flat_map has (drop (i + 1) xs)) ∙ ap (λ m. after ids m (flat_map has (drop (i + 1) xs))) (sym more)

-- references that stand one after the other
pub ruleset parts = (after_none, after_append)
