-- Lists of which no member is like a later one.
use Rattle.std.proofs.Common.{◌≡◌, Bool, true, false, not, ◌||◌, List, [], ◌∷◌, refl}
use Rattle.std.specs.List.{AllByRecursion, IsDistinct, list_any}
use Rattle.std.proofs.lemmas.Bool.{and_parts, and_from}
use Rattle.table_rows.specs.Store.{all_differ}

either-not : (a b : Bool) → not (a || b) ≡ true → (a ≡ false) × (not b ≡ true)
either-not true b e = absurd (cc)
either-not false b e = (refl, e)

module _ {X : Type 0} where
  none-like : (test : X → Bool) (xs : List X) → not (list_any test xs) ≡ true → AllByRecursion (λ x. test x ≡ false) xs
  none-like test [] e = tt
  none-like test (x ∷ xs) e =
      let parts = either-not (test x) (list_any test xs) e in
      (parts.0, none-like test xs parts.1)

  pub none-any : (test : X → Bool) (xs : List X) → AllByRecursion (λ x. test x ≡ false) xs → not (list_any test xs) ≡ true
  none-any test [] all = refl
  none-any test (x ∷ xs) all = rw all.0 (none-any test xs all.1)

  -- in the words of the library
  pub differ-distinct : (like : X → X → Bool) (xs : List X) → all_differ like xs ≡ true → IsDistinct like xs
  unfolding IsDistinct
  differ-distinct like [] e = tt
  differ-distinct like (x ∷ xs) e =
      let parts = and_parts (not (list_any (like x) xs)) (all_differ like xs) e in
      (none-like (like x) xs parts.0, differ-distinct like xs parts.1)

  -- a list of which each member is like none of those after it
  pub differ-more : (like : X → X → Bool) (x : X) (xs : List X) → AllByRecursion (λ y. like x y ≡ false) xs → all_differ like xs ≡ true
      → all_differ like (x ∷ xs) ≡ true
  differ-more like x xs all rest = and_from (not (list_any (like x) xs)) (all_differ like xs) (none-any (like x) xs all) rest
