-- The levels of workflows as small numbers.
use Rattle.std.proofs.Common.{◌≡◌, ◌≤◌, ◌∷◌, [], ℤ, zero, suc, List, length, map, refl, sym, ap, subst}
use Rattle.std.proofs.lemmas.List.{length-map}
use Rattle.dh_metadata.specs.Approval.{tree_level}
use Rattle.dh_metadata.specs.Linked.{Each}

pub map_map : {A B C : Type 0} (f : B → C) (g : A → B) (xs : List A) → map f (map g xs) ≡ map (λ x. f (g x)) xs
map_map f g [] = refl
map_map f g (x ∷ xs) = ap (λ l. f (g x) ∷ l) (map_map f g xs)

-- small numbers are as many
pub few_mapped : (all : List (List ℤ)) → Each (λ own. length own ≤ 8) all → Each (λ own. length own ≤ 8) (map (map tree_level) all)
few_mapped [] each n object at = absurd (cc)
few_mapped (own ∷ all) each zero object at =
    let same : map tree_level own ≡ object = cc in
    subst (λ l. length l ≤ 8) same (subst (λ n. n ≤ 8) (sym (length-map own tree_level)) (each 0 own refl))
few_mapped (own ∷ all) each (suc n) object at = few_mapped all (λ m other there. each (suc m) other there) n object at
