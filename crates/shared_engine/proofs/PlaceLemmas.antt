-- Places for years.
use Rattle.std.proofs.Common.{ℕ, ℤ, List, [], ◌∷◌, ◌≡◌, ◌<◌, suc, zero, Option, None, Some, ◌+◌, ◌≤◌, ◌++◌, length, set, take, map, ap, refl, sym}
use Rattle.std.proofs.Common.{subst, ◌∙◌, arith}
use Rattle.std.specs.Prelude.{get_or, pos}
use Rattle.std.proofs.lemmas.List.{take_more, take_all, map-append}
use Rattle.shared_engine.specs.Places.{ArePlaces}

abbrev pub empty : {P : Type 0} → ℤ → Option P
empty year = None

-- nothing is built yet
pub blank : {P : Type 0} (is_part : ℤ → P → Type 0) (years : List ℤ) → ArePlaces is_part years (map empty years)
blank is_part [] = tt
blank is_part (year ∷ years) = (tt, blank is_part years)

-- there are as many places as years
pub as_many : {P : Type 0} (is_part : ℤ → P → Type 0) (years : List ℤ) (places : List (Option P)) → ArePlaces is_part years places
    → length places ≡ length years
as_many is_part [] [] are = refl
as_many is_part [] (place ∷ places) are = absurd are
as_many is_part (year ∷ years) [] are = absurd are
as_many is_part (year ∷ years) (place ∷ places) are = ap suc (as_many is_part years places are.1)

-- a part is put into its place
pub with_part : {P : Type 0} (is_part : ℤ → P → Type 0) (years : List ℤ) (places : List (Option P)) (place : ℕ) (part : P)
    → ArePlaces is_part years places → is_part (get_or years place (pos 0)) part → ArePlaces is_part years (set places place (Some part))
with_part is_part [] [] place part are is = tt
with_part is_part [] (other ∷ places) place part are is = absurd are
with_part is_part (year ∷ years) [] place part are is = absurd are
with_part is_part (year ∷ years) (other ∷ places) zero part are is = (is, are.1)
with_part is_part (year ∷ years) (other ∷ places) (suc place) part are is = (are.0, with_part is_part years places place part are.1 is)

-- each place is there
pub has_place : {P : Type 0} (is_part : ℤ → P → Type 0) (years : List ℤ) (places : List (Option P)) (place : ℕ) (len : ℕ) → ArePlaces is_part years places
    → place < length years → len ≡ length places → place < len
has_place is_part years places place len are there is = let n = as_many is_part years places are in omega arith

-- one more place is made
pub one_more : {P : Type 0} (years : List ℤ) (i : ℕ) (xs ys : List (Option P)) → i < length years → xs ≡ map empty (take i years)
    → ys ≡ xs ++ None ∷ [] → ys ≡ map empty (take (i + 1) years)
one_more years i xs ys low old new =
    new ∙ ap (λ l. l ++ None ∷ []) old
    ∙ sym (ap (map empty) (take_more years i (pos 0) low) ∙ map-append empty (take i years) (get_or years i (pos 0) ∷ []))

-- all are made
pub all_made : {P : Type 0} (is_part : ℤ → P → Type 0) (years : List ℤ) (i : ℕ) (xs : List (Option P)) → length years ≤ i → xs ≡ map empty (take i years)
    → ArePlaces is_part years xs
all_made is_part years i xs high is =
    subst (λ l. ArePlaces is_part years l) (sym (is ∙ ap (map empty) (take_all i years high))) (blank is_part years)
